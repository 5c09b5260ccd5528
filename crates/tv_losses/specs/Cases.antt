-- What a precondition is asked in, as the code holds it.
use Rattle.std.specs.Prelude.{ℕ, ◌⊎◌, List, Option, All, Contains}
use Rattle.tv_eval.specs.AssignmentForm.{IsAssigned}
use Rattle.tv_model.specs.Program.{ActionForm, action_of, program_of}
use Rattle.tv_model.specs.Valid.{IsValid}
use Rattle.tv_step.specs.EngineForm.{EngineForm}
use Rattle.tv_step_laws.specs.Shaped.{IsShaped}
use Rattle.tv_structure_form.specs.StructureForm.{StructureForm}
use Rattle.tv_losses.specs.declared.case.Case.{Case}

abbrev pub action_in : Case → ActionForm
action_in c = action_of c.action.now

-- the stepper's program is valid, the action is one of its own, and the structure is over its vocabulary
pub record IsCase (c : Case) (stepper : EngineForm) : Type 0 where
  pub valid : IsValid (program_of stepper.program)
  pub action : Contains (program_of stepper.program).actions (action_in c)
  pub shaped : IsShaped (program_of stepper.program) c.from.now

-- the picked variables stand for individuals
abbrev pub ArePicked : ActionForm → StructureForm → List (Option ℕ) → Type 0
ArePicked action t places = All (IsAssigned t.size places) action.picks

-- those that aren't left do
abbrev pub ArePickedBut : ActionForm → StructureForm → (left : List ℕ) → List (Option ℕ) → Type 0
ArePickedBut action t left places =
    (v : ℕ) → Contains action.picks v → Contains left v ⊎ IsAssigned t.size places v
