-- What stages are recorded of, as the code holds it.
use Rattle.std.specs.Prelude.{◌≡◌, Some, slice_get}
use Rattle.tv_model.specs.Program.{ProgramForm, ActionForm, action_of, program_of}
use Rattle.tv_model.specs.Valid.{IsValid}
use Rattle.tv_eval.specs.ScratchForm.{IsMadeFor}
use Rattle.tv_rules.specs.Closing.{closed_rules}
use Rattle.tv_rules.specs.EntryForms.{rules_of}
use Rattle.tv_update.specs.Plan.{IsPlanFor}
use Rattle.tv_step_laws.specs.Shaped.{IsShaped}
use Rattle.tv_stages.specs.declared.course.Case.{Case}
use Rattle.tv_stages.specs.declared.course.Course.{Course}
use Rattle.tv_stages.specs.declared.task.Task.{Task}
use Rattle.tv_stages.specs.declared.task.Tools.{Tools}

abbrev pub task_program : Task → ProgramForm
task_program x = program_of x.program.now

-- the program is valid, the rules are its closed ones, and the tools were made for it and the mode
pub record IsReadyToRecord (x : Task) (tools : Tools) : Type 0 where
  pub valid : IsValid (task_program x)
  pub rules : rules_of x.closed.now ≡ closed_rules (task_program x)
  pub room : IsMadeFor (task_program x) 256 tools.scratch
  pub declared : tools.declared ≡ x.program.now
  pub stepper : tools.stepper ≡ record { program = x.program.now; mode = x.mode }

abbrev pub course_action : Course → ActionForm
course_action course = action_of course.action.now

-- the action is the program's, by its number, and the plan is that of the mode
pub record IsCourse (x : Task) (course : Course) : Type 0 where
  pub action : slice_get (task_program x).actions course.number ≡ Some (course_action course)
  pub plan : IsPlanFor (task_program x) x.mode (course_action course) course.plan

-- the action can be applied to the structure, which is over the program
pub record CanUpdate (x : Task) (tools : Tools) (case : Case) : Type 0 where
  pub ready : IsReadyToRecord x tools
  pub course : IsCourse x case.course.now
  pub shaped : IsShaped (task_program x) case.from.now
