-- What a formula has to be for a structure, and what its evaluation needs.
use Rattle.std.specs.Prelude.{ℕ, ◌≤◌, List, length, map, Option, All}
use Rattle.tv_kleene.specs.declared.K3.{K3}
use Rattle.tv_model.specs.Form.{Form, IsFree}
pub use Rattle.tv_quantifiers.specs.Runs.{nesting}
use Rattle.tv_eval.specs.AssignmentForm.{IsAssigned}

-- the free variables of the formula stand for individuals of a structure of that size
abbrev pub AreAssigned : (size : ℕ) → List (Option ℕ) → Form → Type 0
AreAssigned size places f = (v : ℕ) → IsFree v f → IsAssigned size places v

-- the sizes of some relations
abbrev pub sizes_of : List (List (List K3)) → List ℕ
sizes_of rooms = map length rooms

-- room for closures nested so deep, in structures of that size
pub record HasRooms (size levels : ℕ) (sizes : List ℕ) : Type 0 where
  pub count : levels ≤ length sizes
  pub each : All (λ room. size ≤ room) sizes
