-- Laws of compiled programs with updates, as statements.
use Rattle.std.specs.Prelude.{◌↔◌, List}
use Rattle.tv_model.specs.declared.program.Mode.{Mode}
use Rattle.tv_model.specs.Heap.{Heap}
use Rattle.tv_model.specs.Run.{Stage, IsRun}
use Rattle.tv_source.specs.Forms.{SourceForm}
use Rattle.tv_source.specs.Valid.{IsSource}
use Rattle.tv_plang_laws.specs.Compiled.{compiled}
use Rattle.tv_plang_laws.specs.Laws.{NullsAreToldBy, RunsAreRunsOf}
use Rattle.tv_updates_laws.specs.Updated.{updated_program}

-- The program with updates has the runs of the compiled program, in both modes: each update agrees with its
-- definition on every step, and each heap of a run meets the rules.
abbrev pub UpdatesAreExact : Type 0
UpdatesAreExact =
    (p : SourceForm) → IsSource p → (mode : Mode) (start : Heap) (stages : List Stage)
    → IsRun (compiled p) mode start stages ↔ IsRun (updated_program p) mode start stages

-- what the program of the pointer language does from its start, the program with updates does
abbrev pub SourceRunsAreUpdatedRuns : Type 0
SourceRunsAreUpdatedRuns = (p : SourceForm) → IsSource p → RunsAreRunsOf (updated_program p) p

-- it tells each dereference of null
abbrev pub NullsAreToldWithUpdates : Type 0
NullsAreToldWithUpdates = (p : SourceForm) → IsSource p → NullsAreToldBy (updated_program p) p
