-- A closed report fails no demand.
use Rattle.std.proofs.Common.{◌≡◌, refl}
use Rattle.tv_listing.specs.declared.analysis.Item.TheVariants as item
use Rattle.tv_listing.specs.declared.analysis.Rejection.TheVariants as rejection
use Rattle.tv_struct.specs.declared.analysis.StageError.{StageError}
use Rattle.tv_struct.specs.declared.analysis.StageError.TheVariants.{Splits, Individuals, Memory}
use Rattle.tv_judge.specs.Judged.{Case, IsClosedReport, KeepsAllBudgets, Demand, Covering, Stepping, Saying}
use Rattle.tv_judge.specs.Judged.{FailsDemand, IsJudgeCause}
use Rattle.tv_judge.specs.Laws.{ClosedReportsAreAccepted}
use Rattle.tv_judge.specs.Verdicts.{IsVerdict, IsAcceptance}
use Rattle.tv_judge.specs.declared.verdict.Verdict.{Verdict}
use Rattle.tv_judge.specs.declared.verdict.Verdict.TheVariants.{Accepted, Rejected}
use Rattle.tv_judge.proofs.Stopping.{keeps-not}

module _ (c : Case) (closed : IsClosedReport c) (keeps : KeepsAllBudgets c) where
  fails-none : (d : Demand) → ¬ FailsDemand c d
  fails-none (Covering i) fails = fails.unmet (closed.items i fails.s fails.targets fails.there)
  fails-none (Stepping edge structure) fails =
      keeps-not c.program edge fails.from
      (keeps edge fails.taken structure fails.from fails.source) fails.budget
  fails-none (Saying edge structure number) fails = fails.1 (closed.messages edge structure number fails.0)

  verdicts : (v : Verdict) → IsVerdict c v → IsAcceptance v
  verdicts (Accepted maps) is = tt
  verdicts (Rejected (rejection.Initial number)) is = fails-none (Covering (item.Initial number)) is.fails
  verdicts (Rejected (rejection.Result edge structure result)) is =
      fails-none (Covering (item.Result edge structure result)) is.fails
  verdicts (Rejected (rejection.Message edge number)) is = fails-none (Saying edge is.0 number) is.1.fails

  errors : (e : StageError) → IsJudgeCause c e → e ≡ Memory
  errors Splits is = absurd (fails-none (Stepping is.edge is.structure) is.first.fails)
  errors Individuals is = absurd (fails-none (Stepping is.edge is.structure) is.first.fails)
  errors Memory is = refl

pub closed-accepted : ClosedReportsAreAccepted
closed-accepted c closed keeps = record { verdicts = verdicts c closed keeps; errors = errors c closed keeps }
