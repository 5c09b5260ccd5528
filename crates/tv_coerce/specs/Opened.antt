-- Which individuals of a variable leave something to be asked for, as far as was narrowed.
use Rattle.std.specs.Prelude.{ℕ, ◌≡◌, ◌≢◌, ◌<◌, List, Some, slice_get}
use Rattle.std.specs.Prelude.{slice_index_or}
use Rattle.tv_kleene.specs.declared.K3.{K3}
use Rattle.tv_kleene.specs.declared.K3.TheVariants.{No}
use Rattle.tv_row.specs.Bits.{greatest_in}
use Rattle.tv_coerce.specs.Counting.{counted}

-- with u put for the variable before those that are left, which counts as k, no later member leaves anything
-- to be asked for, as far as was narrowed
pub record IsLaterShut (later : List (List K3)) (left u : ℕ) (tail : List K3) (k : K3) : Type 0 where
  pub word : List K3
  pub there : slice_get later left ≡ Some word
  pub none : counted (counted k (greatest_in tail)) (slice_index_or word u No) ≡ No

-- the new word has No where the old one has it, and for individuals that leave nothing
pub record IsGoingOn (later : List (List K3)) (left : ℕ) (tail old new : List K3) : Type 0 where
  pub some : (i : ℕ) → i < 64 → slice_index_or new i No ≢ No → slice_index_or old i No ≢ No
  pub shut : (i : ℕ) → i < 64 → slice_index_or old i No ≢ No → slice_index_or new i No ≡ No
      → IsLaterShut later left i tail (slice_index_or old i No)
