-- Laws of what is recorded of an abstract step, as statements.
use Rattle.std.specs.Prelude.{ℕ, ◌↔◌, List, Contains}
use Rattle.tv_model.specs.declared.program.Mode.{Mode}
use Rattle.tv_model.specs.Program.{ProgramForm}
use Rattle.tv_model.specs.Valid.{IsValid}
use Rattle.tv_structure_form.specs.StructureForm.{StructureForm}
use Rattle.tv_step_laws.specs.Transfer.{AreResults}
use Rattle.tv_stages_laws.specs.declared.record.SlowStep.{SlowStep}
use Rattle.tv_stages_laws.specs.Stages.{AreStages, IsSlowStep, ends_of}

-- the results at the end of what is recorded are those of the abstract step
abbrev pub SlowStepsAreSteps : Type 0
SlowStepsAreSteps = (p : ProgramForm) (mode : Mode) (edge : ℕ) (s : StructureForm) (step : SlowStep)
    → IsSlowStep p mode edge s step → AreResults p mode edge s step.results

-- the results of the abstract step are what any record of its stages ends in
abbrev pub StagesEndInResults : Type 0
StagesEndInResults = (p : ProgramForm) → IsValid p → (mode : Mode) (edge : ℕ) (s : StructureForm)
    (step : SlowStep) → AreStages p mode edge s step
    → (results : List StructureForm) → AreResults p mode edge s results
    → (t : StructureForm) → Contains results t ↔ Contains (ends_of step.updates) t
