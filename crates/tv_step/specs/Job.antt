-- An action as a step applies it, and a structure at hand to which it is applied.
use Rattle.std.specs.Prelude.{ℕ, ◌≡◌, ◌⊎◌, ◌^◌, ◌-◌, List, Option, Some, length, map, min, All, Contains}
use Rattle.std.specs.Prelude.{slice_get}
use Rattle.tv_model.specs.declared.program.Mode.{Mode}
use Rattle.tv_model.specs.declared.program.Program.{Program}
use Rattle.tv_model.specs.Program.{ProgramForm, ActionForm, action_of, program_of}
use Rattle.tv_eval.specs.AssignmentForm.{IsAssigned}
use Rattle.tv_eval.specs.ScratchForm.{ScratchForm}
use Rattle.tv_rules.specs.Closing.{closed_rules}
use Rattle.tv_structure_form.specs.StructureForm.{StructureForm, IsStructure}
use Rattle.tv_step_laws.specs.Shaped.{IsShaped}
use Rattle.tv_step_laws.specs.Transfer.{focus_places}
use Rattle.tv_update.specs.Plan.{IsPlanFor}
use Rattle.tv_step.specs.declared.job.Job.{Job}
use Rattle.tv_step.specs.declared.picks.Case.{Case}
use Rattle.tv_step.specs.Places.{focus_place, HasWaiting}
use Rattle.tv_step.specs.Redefined.{AreDefining}
use Rattle.tv_step.specs.Setting.{form_in, IsReadyToStep, IsStableIn}
use Rattle.tv_step.specs.Waiting.{WaitsFor}

abbrev pub action_in : Job → ActionForm
action_in job = action_of job.action.now

-- the job's action is the program's, by its number; its turns are the atoms of the action's focus formulas,
-- and the rules that wait are those that a choice of the atom and the action may leave unmet; the plan is
-- that of the mode, and rules are listed by the predicates whose definitions they came of
pub record IsJob (program : Program) (mode : Mode) (job : Job) : Type 0 where
  pub action : slice_get (program_of program).actions job.number ≡ Some (action_in job)
  pub places : map focus_place job.turns.items ≡ focus_places (action_in job).focus
  pub waiting : All (HasWaiting program) job.turns.items
  pub waits : WaitsFor (program_of program) (action_in job)
      (closed_rules (program_of program)) job.waiting.value
  pub plan : IsPlanFor (program_of program) mode (action_in job) job.plan
  pub defining : AreDefining (program_of program) (closed_rules (program_of program)) job.defining.value

-- each action has such a job at its number; the greatest 32-bit number stands for all that are greater
pub record AreJobs (program : Program) (mode : Mode) (jobs : List Job) : Type 0 where
  pub count : length jobs ≡ length program.actions
  pub each : (n : ℕ) (job : Job) → slice_get jobs n ≡ Some job
      → (job.number ≡ min n (2 ^ 32 - 1)) × IsJob program mode job

abbrev pub case_program : Case → ProgramForm
case_program c = form_in c.setting.now

abbrev pub case_action : Case → ActionForm
case_action c = action_in c.job.now

abbrev pub case_mode : Case → Mode
case_mode c = c.setting.now.mode

abbrev pub case_structure : Case → StructureForm
case_structure c = c.from.now

-- the case is one of the program and of a stable structure over it
pub record IsCase (c : Case) (scratch : ScratchForm) : Type 0 where
  pub ready : IsReadyToStep c.setting.now scratch
  pub job : IsJob c.setting.now.program.now c.setting.now.mode c.job.now
  pub shaped : IsShaped (case_program c) (case_structure c)
  pub is : IsStructure (case_structure c)
  pub stable : IsStableIn (case_program c) (case_structure c)

-- the picked variables stand for individuals
abbrev pub ArePicked : Case → List (Option ℕ) → Type 0
ArePicked c places = All (IsAssigned (case_structure c).size places) (case_action c).picks

-- those that aren't left do
abbrev pub ArePickedBut : Case → (left : List ℕ) → List (Option ℕ) → Type 0
ArePickedBut c left places =
    (v : ℕ) → Contains (case_action c).picks v → Contains left v ⊎ IsAssigned (case_structure c).size places v
