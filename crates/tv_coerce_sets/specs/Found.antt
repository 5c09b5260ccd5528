-- Sets of rules that were found.
use Rattle.std.specs.Prelude.{ℕ, ◌≡◌, ◌++◌, ◌∷◌, [], Bool, List}
use Rattle.tv_coerce_sets.specs.declared.found.Kept.{Kept}

-- one set more is kept, for these predicates
pub record HasMoreSets (preds : List ℕ) (set : List Bool) (old new : List Kept) : Type 0 where
  pub kept : Kept
  pub last : new ≡ old ++ kept ∷ []
  pub preds_are : kept.preds.items ≡ preds
  pub set_is : kept.set.value ≡ set
