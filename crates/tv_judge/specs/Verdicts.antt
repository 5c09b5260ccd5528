-- What a verdict says.
use Rattle.tv_model.specs.declared.program.Mode.{Mode}
use Rattle.tv_model.specs.declared.program.Program.{Program}
use Rattle.tv_model.specs.Program.{program_of}
use Rattle.std.specs.Prelude.{List}
use Rattle.tv_structure_form.specs.StructureForm.{StructureForm}
use Rattle.tv_listing.specs.declared.analysis.Analysis.{Analysis}
use Rattle.tv_listing.specs.declared.analysis.MapLine.{MapLine}
use Rattle.tv_step_laws.specs.Closed.{IsClosed, CoversRuns}
use Rattle.tv_judge.specs.Judged.{Case, IsClosedReport, KeepsAllBudgets, IsRejection, AreMapsOf}
use Rattle.tv_judge.specs.declared.verdict.Verdict.{Verdict}
use Rattle.tv_judge.specs.declared.verdict.Verdict.TheVariants.{Accepted, Rejected}

abbrev pub case_of : Program → Mode → List StructureForm → Analysis → Case
case_of program mode initial analysis =
    record { program = program_of program; mode = mode; initial = initial; analysis = analysis }

-- the report is closed and all steps keep the budgets, and there are the maps of its items
abbrev pub IsAcceptable : Case → Type 0
IsAcceptable c = IsClosedReport c × KeepsAllBudgets c × ((maps : List MapLine) × AreMapsOf c maps)

-- the report is accepted exactly where it is closed and all steps keep the budgets, with its maps, and
-- rejected
-- with the first demand that it doesn't meet
abbrev pub IsVerdict : Case → Verdict → Type 0
IsVerdict c (Accepted maps) = IsClosedReport c × KeepsAllBudgets c × AreMapsOf c maps
IsVerdict c (Rejected r) = IsRejection c r

abbrev pub IsAcceptance : Verdict → Type 0
IsAcceptance (Accepted maps) = Unit {0}
IsAcceptance (Rejected r) = ⊥

-- this holds of an accepted report
abbrev pub OnceAccepted : Type 0 → Verdict → Type 0
OnceAccepted X (Accepted maps) = X
OnceAccepted X (Rejected r) = Unit {0}

-- its listing is closed, and covers all runs
abbrev pub IsSound : Case → Type 0
IsSound c = IsClosed c.program c.mode c.initial c.analysis.listing c.analysis.messages
    × CoversRuns c.program c.mode c.initial c.analysis.listing c.analysis.messages
