-- Words of which only the first values are used, several of them side by side in one word of 64.
use Rattle.std.specs.Prelude.{ℕ, ◌≡◌, ◌<◌, ◌≤◌, ◌+◌, ◌*◌, ◌/◌, ◌%◌, ◌^◌, ◌⊎◌, List, length, map}
use Rattle.std.specs.Prelude.{slice_index_or, nat_lt, nat_le, if◌then◌else◌}
use Rattle.std.specs.List.{range_with_len}
use Rattle.tv_kleene.specs.declared.K3.{K3}
use Rattle.tv_kleene.specs.declared.K3.TheVariants.{No}
use Rattle.tv_row.specs.Places.{AreWords, word_at, value_in}

-- how many values of a word are used, which are the only ones that needn't be No, and the words
pub record PackedForm : Type 0 where
  pub cells : ℕ
  pub words : List (List K3)

-- as many whole words as fit lie in a word
abbrev pub FillsWord : ℕ → Type 0
FillsWord cells =
    (cells ≡ 1) ⊎ (cells ≡ 2) ⊎ (cells ≡ 4) ⊎ (cells ≡ 8) ⊎ (cells ≡ 16) ⊎ (cells ≡ 32) ⊎ (cells ≡ 64)

-- how many values of a word are used for rows of that many values: all of them, or the least such number
-- that a row fits
abbrev pub cells_for : (columns : ℕ) → ℕ
cells_for columns =
    if nat_le columns 1 then 1 else if nat_le columns 2 then 2 else if nat_le columns 4 then 4
    else if nat_le columns 8 then 8 else if nat_le columns 16 then 16 else if nat_le columns 32 then 32
    else 64

-- word p of those that are packed
abbrev pub word_unpacked : (items : List (List K3)) → (cells p : ℕ) → List K3
word_unpacked items cells p =
    map (λ c. if nat_lt c cells then value_in items 0 (p * cells + c) else No) (range_with_len 0 64)

-- the words that are packed
unfoldable pub unpacked : (items : List (List K3)) → (cells count : ℕ) → List (List K3)
unpacked items cells count = map (word_unpacked items cells) (range_with_len 0 count)

-- and back: the words packed
unfoldable pub packed : PackedForm → List (List K3)
packed form =
    map
    (λ q. map (λ c.
    slice_index_or (word_at form.words ((64 * q + c) / form.cells)) ((64 * q + c) % form.cells) No)
    (range_with_len 0 64))
    (range_with_len 0 ((length form.words * form.cells + 63) / 64))

-- the items hold that many words, and No behind them
pub record HoldsPacked (items : List (List K3)) (cells count : ℕ) : Type 0 where
  pub words_have : AreWords items
  pub fills : FillsWord cells
  pub few : count ≤ 2 ^ 48
  pub as_many : length items ≡ (count * cells + 63) / 64
  pub unused : (place : ℕ) → count * cells ≤ place → place < 64 * length items → value_in items 0 place ≡ No
