-- A walk back: what stands on it is over the vocabulary.
use Rattle.tv_model.specs.declared.program.Program.{Program}
use Rattle.tv_model.specs.Program.{program_of}
use Rattle.tv_structure_form.specs.StructureForm.{StructureForm, IsStructure, IsOver}
use Rattle.tv_step_laws.specs.Settled.{IsSettled}
use Rattle.tv_step_laws.proofs.Shapes.{shaped-over}

pub settled-over : (program : Program) (s : StructureForm) → IsSettled (program_of program) s
    → IsStructure s × IsOver program.vocab s
settled-over program s settled = (settled.is, shaped-over program s settled.shaped)
