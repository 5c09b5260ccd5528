-- Flags as bits of words.
use Rattle.std.specs.Prelude.{ℕ, ◌<◌, ◌≤◌, ◌*◌, ◌/◌, ◌%◌, ◌^◌, Bool, List, length, map, slice_index_or}
use Rattle.std.specs.List.{range_with_len}
use Rattle.tv_row.specs.Bits.{bit}

-- the flag of a number, 64 in each word
abbrev pub flag_at : (words : List ℕ) → (number : ℕ) → Bool
flag_at words number = bit (slice_index_or words (number / 64) 0) (number % 64)

-- the flags of the numbers below a count
unfoldable pub flags_in : (words : List ℕ) → (count : ℕ) → List Bool
flags_in words count = map (flag_at words) (range_with_len 0 count)

-- there are words for that many flags, which are fewer than memory has bytes
pub record HoldsFlags (words : List ℕ) (count : ℕ) : Type 0 where
  pub room : count ≤ 64 * length words
  pub small : count < 2 ^ 63
