-- Laws of explanations, as statements.
use Rattle.std.specs.Prelude.{ℕ, ◌≡◌, ◌↔◌, List, Contains}
use Rattle.tv_listing.specs.declared.analysis.MessageLine.{MessageLine}
use Rattle.tv_model.specs.Program.{ProgramForm}
use Rattle.tv_model.specs.declared.program.Mode.{Mode}
use Rattle.tv_structure_form.specs.StructureForm.{StructureForm}
use Rattle.tv_trail.specs.Reasons.{IsNeverRaised}
use Rattle.tv_work.specs.Analyzed.{IsAnalysis}

-- where an analysis ends within its limits, no reached structure raises a message exactly where none of its
-- lines tells of it
abbrev pub SilenceIsNoLine : Type 0
SilenceIsNoLine = (p : ProgramForm) (mode : Mode) (initial : List StructureForm) (max : ℕ)
    (listing : List (List StructureForm)) (lines : List MessageLine) (edge number : ℕ)
    → IsAnalysis p mode initial max listing lines → IsNeverRaised p mode initial edge number
    ↔ ((line : MessageLine) → Contains lines line → ¬ ((line.edge ≡ edge) × (line.number ≡ number)))
