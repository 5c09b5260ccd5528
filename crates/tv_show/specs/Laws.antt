-- Laws of lines, as statements.
use Rattle.std.specs.Prelude.{◌≡◌}
use Rattle.tv_model.specs.Program.{program_of}
use Rattle.tv_model.specs.Valid.{IsValid}
use Rattle.tv_model.specs.declared.program.Program.{Program}
use Rattle.tv_structure_form.specs.StructureForm.{StructureForm, IsStructure, IsOver, unmarked}
use Rattle.tv_show.specs.Line.{line_of}

-- structures over the vocabulary of a valid program that have one line are equal, marks aside
abbrev pub LinesTellStructures : Type 0
LinesTellStructures =
    (p : Program) (s t : StructureForm) → IsValid (program_of p) → IsStructure s → IsStructure t
    → IsOver p.vocab s → IsOver p.vocab t → line_of p.vocab s ≡ line_of p.vocab t
    → unmarked s ≡ unmarked t
