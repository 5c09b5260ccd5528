-- Numbers that equal values share.
use Rattle.std.specs.Prelude.{ℕ, ◌+◌, ◌*◌, ◌/◌, ◌%◌, ◌^◌, bit_xor, min, List, length, fold, take}
use Rattle.tv_kleene.specs.declared.K3.{K3}
use Rattle.tv_row.specs.Bits.{number_of, is_possible, is_certain}
use Rattle.tv_row.specs.RowForm.{row_words}

-- the product of two numbers of 64 bits, its high half laid over its low half: each bit of the first counts
-- in high and in low ones where the second is odd and large
abbrev pub folded : (n factor : ℕ) → ℕ
folded n factor = bit_xor (n * factor / 2 ^ 64) (n * factor % 2 ^ 64)

-- one more number mixed in
abbrev pub mixed : ℕ → ℕ → ℕ
mixed hash n = folded ((hash + n) % 2 ^ 64) 11400714819323198485

-- both planes of a word as one number
abbrev pub word_number : List K3 → ℕ
word_number word =
    (number_of is_possible word + folded (number_of is_certain word) 14181476777654086739) % 2 ^ 64

-- a word mixed in
abbrev pub word_mixed : ℕ → List K3 → ℕ
word_mixed hash word = mixed hash (word_number word)

-- the words that a row takes, mixed in one after the other
abbrev pub row_mixed : ℕ → List K3 → ℕ
row_mixed hash row = fold word_mixed hash (take (length row / 64 + min 1 (length row % 64)) (row_words row))
