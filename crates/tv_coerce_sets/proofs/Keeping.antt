-- Sets of rules that were found.
use Rattle.std.proofs.Common.{ℕ, ◌≡◌, List, Some, slice_get, Contains}
use Rattle.tv_model.proofs.Lists.{slice_get-contains}
use Rattle.tv_coerce_sets.specs.declared.found.Kept.{Kept}

pub in_list : (kept : List Kept) (i : ℕ) (k : Kept) → slice_get kept i ≡ Some k → Contains kept k
in_list kept i k at = slice_get-contains kept i k at
