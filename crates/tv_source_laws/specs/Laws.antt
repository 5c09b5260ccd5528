-- Laws of analyses of compiled programs, as statements.
use Rattle.std.specs.Prelude.{List}
use Rattle.tv_model.specs.declared.program.Mode.{Mode}
use Rattle.tv_listing.specs.declared.analysis.MessageLine.{MessageLine}
use Rattle.tv_source.specs.Forms.{SourceForm}
use Rattle.tv_source.specs.Valid.{IsSource}
use Rattle.tv_plang_laws.specs.Compiled.{compiled, IsSmall}
use Rattle.tv_source_laws.specs.Covers.{CoversSource}
use Rattle.tv_structure_form.specs.StructureForm.{StructureForm}
use Rattle.tv_step_laws.specs.Closed.{CoversRuns}

-- what covers the runs of the compiled program, in either mode, covers those of the source program
abbrev pub CoveredRunsCoverSources : Type 0
CoveredRunsCoverSources =
    (p : SourceForm) (mode : Mode) (initial : List StructureForm) (listed : List (List StructureForm))
    (lines : List MessageLine)
    → IsSource p → IsSmall (compiled p) → CoversRuns (compiled p) mode initial listed lines
    → CoversSource p initial listed lines
