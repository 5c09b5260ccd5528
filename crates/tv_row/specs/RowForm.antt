-- A row of up to 256 values in four words.
use Rattle.std.specs.Prelude.{ℕ, ◌≡◌, ◌<◌, ◌≤◌, ◌+◌, ◌*◌, List, length, map, slice_index_or}
use Rattle.std.specs.List.{range_with_len}
use Rattle.tv_kleene.specs.declared.K3.{K3}
use Rattle.tv_kleene.specs.declared.K3.TheVariants.{No}
use Rattle.tv_row.specs.Bits.{values_of}
use Rattle.tv_row.specs.Places.{AreWords, value_in}

-- the words hold a row of that many values, and No behind it
pub record HoldsRow (words : List (List K3)) (size : ℕ) : Type 0 where
  pub words_have : AreWords words
  pub as_many : length words ≡ 4
  pub small : size ≤ 256
  pub unused : (column : ℕ) → size ≤ column → column < 256 → value_in words 0 column ≡ No

-- the four words that hold the values, with No behind them
abbrev pub row_words : List K3 → List (List K3)
row_words values =
    map (λ p. map (λ c. slice_index_or values (64 * p + c) No) (range_with_len 0 64)) (range_with_len 0 4)

-- the word that is Half where a bit is set, and No elsewhere
abbrev pub half_word : (bits : ℕ) → List K3
half_word bits = values_of bits 0
