-- The predicates that the actions of edges evaluate anew, as they are held.
use Rattle.std.specs.Prelude.{ℕ, ◌≡◌, ◌==◌, Bool, List, [], Some, length, slice_get, slice_index_or}
use Rattle.std.specs.List.{list_any}
use Rattle.tv_model.specs.declared.formula.PredId.{PredId}
use Rattle.tv_model.specs.declared.program.Edge.{Edge}
use Rattle.tv_model.specs.declared.program.Mode.{Mode}
use Rattle.tv_model.specs.declared.program.Program.{Program}
use Rattle.tv_model.specs.Program.{program_of}
use Rattle.tv_update.specs.Plan.{IsPlanFor}
use Rattle.tv_update.specs.Update.{action_at}

-- whether the predicate is among these
abbrev pub is_held : List PredId → (q : ℕ) → Bool
is_held order q = list_any (λ r. r.0 == q) order

-- whether it is among those of this number
abbrev pub is_held_at : List (List PredId) → (number q : ℕ) → Bool
is_held_at orders number q = is_held (slice_index_or orders number []) q

-- for each of the first edges, as many as are told, the predicates that its action evaluates anew
pub record ArePlansTo (program : Program) (mode : Mode) (told : ℕ) (orders : List (List PredId)) : Type 0
  where
    pub count : length orders ≡ told
    pub each : (number : ℕ) (edge : Edge) (order : List PredId) → slice_get orders number ≡ Some order
        → slice_get program.edges number ≡ Some edge
        → IsPlanFor (program_of program) mode (action_at program edge.action) order
