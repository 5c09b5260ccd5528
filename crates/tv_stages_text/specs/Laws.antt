-- Laws of recorded steps, as statements.
use Rattle.std.specs.Prelude.{ℕ}
use Rattle.tv_model.specs.Program.{program_of}
use Rattle.tv_model.specs.declared.program.Mode.{Mode}
use Rattle.tv_model.specs.declared.program.Program.{Program}
use Rattle.tv_stages_laws.specs.Stages.{IsSlowStep}
use Rattle.tv_stages_laws.specs.declared.record.SlowStep.{SlowStep}
use Rattle.tv_structure_form.specs.StructureForm.{StructureForm, IsOver}
use Rattle.tv_stages_text.specs.Over.{IsStepOver}

-- all structures of a recorded step are over the program's predicates, where the one that is stepped is
abbrev pub SlowStepsAreOver : Type 0
SlowStepsAreOver = (program : Program) (mode : Mode) (edge : ℕ) (s : StructureForm) (step : SlowStep)
    → IsOver program.vocab s → IsSlowStep (program_of program) mode edge s step
    → IsStepOver program.vocab step
