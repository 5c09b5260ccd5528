-- Laws of closed reports, as statements.
use Rattle.std.specs.Prelude.{◌≡◌, []}
use Rattle.tv_struct.specs.declared.analysis.StageError.{StageError}
use Rattle.tv_struct.specs.declared.analysis.StageError.TheVariants.{Memory}
use Rattle.tv_model.specs.Valid.{IsValid}
use Rattle.tv_step_laws.specs.Closed.{IsClosed}
use Rattle.tv_judge.specs.Judged.{Case, IsClosedReport, KeepsAllBudgets, IsJudgeCause}
use Rattle.tv_judge.specs.Verdicts.{IsVerdict, IsAcceptance}
use Rattle.tv_judge.specs.declared.verdict.Verdict.{Verdict}

-- a closed listing without maps is a closed report
abbrev pub ClosedListingsAreClosedReports : Type 0
ClosedListingsAreClosedReports = (c : Case) → IsValid c.program → c.analysis.maps ≡ []
    → IsClosed c.program c.mode c.initial c.analysis.listing c.analysis.messages → IsClosedReport c

-- the only verdict is acceptance, and the only error is lack of memory
pub record IsOnlyAccepted (c : Case) : Type 0 where
  pub verdicts : (v : Verdict) → IsVerdict c v → IsAcceptance v
  pub errors : (e : StageError) → IsJudgeCause c e → e ≡ Memory

-- a closed report whose steps keep the budgets is accepted
abbrev pub ClosedReportsAreAccepted : Type 0
ClosedReportsAreAccepted = (c : Case) → IsClosedReport c → KeepsAllBudgets c → IsOnlyAccepted c
