-- Laws of analyses, as statements.
use Rattle.std.specs.Prelude.{ℕ, ◌≡◌, List}
use Rattle.tv_listing.specs.declared.analysis.MessageLine.{MessageLine}
use Rattle.tv_model.specs.Program.{ProgramForm}
use Rattle.tv_model.specs.declared.program.Mode.{Mode}
use Rattle.tv_structure_form.specs.StructureForm.{StructureForm}
use Rattle.tv_work.specs.Analyzed.{IsAnalysis}

-- a program, a mode and initial structures have one analysis, whatever number of structures may be listed
abbrev pub AnalysesAreOne : Type 0
AnalysesAreOne = (p : ProgramForm) (mode : Mode) (initial : List StructureForm) (max most : ℕ)
    (listing other : List (List StructureForm)) (lines others : List MessageLine)
    → IsAnalysis p mode initial max listing lines → IsAnalysis p mode initial most other others
    → (listing ≡ other) × (lines ≡ others)
