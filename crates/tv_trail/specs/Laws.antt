-- Laws of trails to messages, as statements.
use Rattle.std.specs.Prelude.{ℕ, List, Contains}
use Rattle.tv_kleene.specs.declared.K3.{K3}
use Rattle.tv_listing.specs.declared.analysis.MessageLine.{MessageLine}
use Rattle.tv_model.specs.Program.{ProgramForm}
use Rattle.tv_model.specs.declared.program.Mode.{Mode}
use Rattle.tv_structure_form.specs.StructureForm.{StructureForm}
use Rattle.tv_trail.specs.Reasons.{LeadsToGreatest}
use Rattle.tv_trail_laws.specs.declared.trail.Trail.{Trail}
use Rattle.tv_work.specs.Analyzed.{IsAnalysis}

-- where an analysis ends, the value that a trail leads to is that of the line on the message
abbrev pub TrailsLeadToLines : Type 0
TrailsLeadToLines = (p : ProgramForm) (mode : Mode) (initial : List StructureForm) (max : ℕ)
    (listing : List (List StructureForm)) (lines : List MessageLine) (edge number : ℕ) (trail : Trail)
    (k : K3)
    → IsAnalysis p mode initial max listing lines → LeadsToGreatest p mode initial edge number trail k
    → Contains lines (record { edge = edge; number = number; value = k })
