-- Laws of analyses of compiled programs with updates, as statements.
use Rattle.std.specs.Prelude.{◌≡◌, List}
use Rattle.tv_model.specs.declared.program.Mode.{Mode}
use Rattle.tv_model.specs.Program.{ProgramForm}
use Rattle.tv_listing.specs.declared.analysis.MessageLine.{MessageLine}
use Rattle.tv_source.specs.Forms.{SourceForm}
use Rattle.tv_source.specs.Valid.{IsSource}
use Rattle.tv_plang_laws.specs.Compiled.{compiled, IsSmall}
use Rattle.tv_source_laws.specs.Covers.{CoversSource}
use Rattle.tv_structure_form.specs.StructureForm.{StructureForm}
use Rattle.tv_step_laws.specs.Closed.{CoversRuns}
use Rattle.tv_updates_laws.specs.Updated.{updated_program}

-- What covers the runs of a program, in either mode, covers those of a source program that is compiled to it
-- with updates.
abbrev pub CoveredUpdatesCoverSources : Type 0
CoveredUpdatesCoverSources =
    (p : SourceForm) (program : ProgramForm) (mode : Mode) (initial : List StructureForm)
    (listed : List (List StructureForm)) (lines : List MessageLine)
    → IsSource p → IsSmall (compiled p) → program ≡ updated_program p
    → CoversRuns program mode initial listed lines
    → CoversSource p initial listed lines
