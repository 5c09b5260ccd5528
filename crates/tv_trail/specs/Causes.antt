-- What makes a message true: a structure at hand at which its condition has the value that is told.
use Rattle.std.specs.Prelude.{ℕ, ◌≡◌, List, Some, Contains, slice_get}
use Rattle.tv_eval_laws.specs.Value.{value}
use Rattle.tv_kleene.specs.declared.K3.{K3}
use Rattle.tv_model.specs.Program.{ActionForm, MessageForm, ProgramForm}
use Rattle.tv_model.specs.Rules.{blank}
use Rattle.tv_step_laws.specs.Transfer.{AreAtHand, IsActionOf, focus_places}
use Rattle.tv_structure_form.specs.StructureForm.{StructureForm, structure_of}

-- the message's condition has this value in the structure
abbrev pub IsConditionValue : MessageForm → StructureForm → K3 → Type 0
IsConditionValue message s k = value (structure_of s) blank message.cond ≡ k

-- t is at hand of s along the edge: coerce, and the focus of the edge's action, leave it; and the condition
-- of the action's message of this number has that value there
pub record IsCauseAt (p : ProgramForm) (edge number : ℕ) (k : K3) (s t : StructureForm) : Type 0 where
  pub action : ActionForm
  pub its_action : IsActionOf p edge action
  pub message : MessageForm
  pub its_message : slice_get action.messages number ≡ Some message
  pub at_hand : List StructureForm
  pub are_at_hand : AreAtHand p (focus_places action.focus) s at_hand
  pub there : Contains at_hand t
  pub is_value : IsConditionValue message t k
