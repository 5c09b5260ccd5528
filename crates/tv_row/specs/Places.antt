-- Places in a list of words of 64 values.
use Rattle.std.specs.Prelude.{ℕ, ◌≡◌, ◌+◌, ◌*◌, ◌/◌, ◌%◌, ◌^◌, min, ◌<◌, ◌≤◌, List, [], length, map, All}
use Rattle.std.specs.Prelude.{slice_index_or, slice_set}
use Rattle.std.specs.List.{range_with_len}
use Rattle.tv_kleene.specs.declared.K3.{K3}
use Rattle.tv_kleene.specs.declared.K3.TheVariants.{No}

-- each word has 64 values
abbrev pub AreWords : List (List K3) → Type 0
AreWords words = All (λ word. length word ≡ 64) words

abbrev pub word_at : List (List K3) → ℕ → List K3
word_at words p = slice_index_or words p []

-- the value in a column of the row that begins at word `start`
abbrev pub value_in : (words : List (List K3)) (start column : ℕ) → K3
value_in words start column = slice_index_or (word_at words (start + column / 64)) (column % 64) No

-- the words with a value put there
abbrev pub with_value : (words : List (List K3)) (start column : ℕ) → K3 → List (List K3)
with_value words start column k =
    slice_set words (start + column / 64) (slice_set (word_at words (start + column / 64)) (column % 64) k)

-- the values of the row that begins at word `start`
unfoldable pub row_of : (words : List (List K3)) (columns start : ℕ) → List K3
row_of words columns start = map (value_in words start) (range_with_len 0 columns)

-- the value in a row and a column, No where there is none
abbrev pub entry_in : List (List K3) → ℕ → ℕ → K3
entry_in rows row column = slice_index_or (slice_index_or rows row []) column No

-- the rows of `width` words each
unfoldable pub rows_of : (words : List (List K3)) (width rows columns : ℕ) → List (List K3)
rows_of words width rows columns = map (λ row. row_of words columns (row * width)) (range_with_len 0 rows)

-- the words hold that many rows, and No where a row has no column
pub record HoldsRows (words : List (List K3)) (width rows columns : ℕ) : Type 0 where
  pub words_have : AreWords words
  pub fits : length words < 2 ^ 64
  pub as_many : length words ≡ rows * width
  pub room : columns ≤ 64 * width
  pub least : width ≡ columns / 64 + min 1 (columns % 64)
  pub unused : (row column : ℕ) → row < rows → columns ≤ column → column < 64 * width
      → value_in words (row * width) column ≡ No

-- what comparing needs of it
pub record HoldsCells (words : List (List K3)) (width rows columns : ℕ) : Type 0 where
  pub words_have : AreWords words
  pub as_many : length words ≡ rows * width
  pub room : columns ≤ 64 * width
  pub unused : (row column : ℕ) → row < rows → columns ≤ column → column < 64 * width
      → value_in words (row * width) column ≡ No
