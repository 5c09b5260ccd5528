-- Laws of joined analyses, as statements.
use Rattle.std.specs.Prelude.{ℕ, ◌≡◌, List}
use Rattle.tv_join.specs.Joined.{IsJoined}
use Rattle.tv_listing.specs.declared.analysis.MessageLine.{MessageLine}
use Rattle.tv_model.specs.Program.{ProgramForm}
use Rattle.tv_model.specs.declared.program.Mode.{Mode}
use Rattle.tv_structure_form.specs.StructureForm.{StructureForm}

-- a program, a mode and initial structures have one joined analysis, whatever number of structures may be
-- listed
abbrev pub JoinedAnalysesAreOne : Type 0
JoinedAnalysesAreOne = (p : ProgramForm) (mode : Mode) (initial : List StructureForm) (max most : ℕ)
    (listing other : List (List StructureForm)) (lines others : List MessageLine)
    → IsJoined p mode initial max listing lines → IsJoined p mode initial most other others
    → (listing ≡ other) × (lines ≡ others)
