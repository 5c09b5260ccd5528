-- What is judged of a state.
use Rattle.std.specs.Prelude.{ℕ, ◌≡◌, ◌<◌, List, Option, Some, None, slice_get}
use Rattle.tv_model.specs.Heap.{Heap, Holds, IsTuple}
use Rattle.tv_model.specs.Program.{PredForm, EachPred, KCore, ActionForm, UpdateForm}
use Rattle.tv_model.specs.Rules.{MeetsDefinition}
use Rattle.tv_model.specs.Step.{AllowsChange, update_for}
use Rattle.tv_model.specs.Truth.{Assignment}

-- the first predicate of which P fails; none where it holds of all
abbrev pub IsFirst : List PredForm → (ℕ → PredForm → Type 0) → Option ℕ → Type 0
IsFirst preds P None = EachPred preds P
IsFirst preds P (Some q) =
    ((d : PredForm) × (slice_get preds q ≡ Some d) × (¬ P q d))
    × ((k : ℕ) (e : PredForm) → k < q → slice_get preds k ≡ Some e → P k e)

-- the predicate holds exactly of the tuples of which its definition is true
abbrev pub IsAsDefined : Heap → ℕ → PredForm → Type 0
IsAsDefined h q d = (tuple : List ℕ) → IsTuple h d.arity tuple → MeetsDefinition h q d.kind tuple

-- the update that is given for the defined predicate is true in the middle heap exactly where the predicate
-- holds in the new one
abbrev pub AgreesAt : ActionForm → Assignment → (middle new : Heap) → ℕ → PredForm → Type 0
AgreesAt action picked middle new q d =
    ¬ (d.kind ≡ KCore) → (w : UpdateForm) → update_for q action.updates ≡ Some w → (tuple : List ℕ)
    → IsTuple new d.arity tuple → AllowsChange middle picked w.vars w.change tuple (Holds new q tuple)
