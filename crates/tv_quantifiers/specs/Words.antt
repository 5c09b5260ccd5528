-- Words of 64 values.
use Rattle.std.specs.Prelude.{ℕ, ◌≡◌, ◌+◌, ◌*◌, ◌<◌, List, length, slice_index_or}
use Rattle.tv_kleene.specs.declared.K3.{K3}
use Rattle.tv_kleene.specs.declared.K3.TheVariants.{No}

-- a word of 64 values: those of g at the individuals of n from 64 * chunk on, as far as there are any
pub record IsWordOf (n chunk : ℕ) (g : ℕ → K3) (word : List K3) : Type 0 where
  pub long : length word ≡ 64
  pub each : (i : ℕ) → i < 64 → 64 * chunk + i < n → slice_index_or word i No ≡ g (64 * chunk + i)
