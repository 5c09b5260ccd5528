-- A row is given back by its values.
use Rattle.std.proofs.Common.{ℕ, ◌≡◌, ◌<◌, ◌+◌, ◌*◌, ◌/◌, ◌%◌, List, [], length, map, get_or, refl, sym, ap}
use Rattle.std.proofs.Common.{◌∙◌, ⊎_elim, arith}
use Rattle.std.specs.List.{range_with_len}
use Rattle.std.proofs.lemmas.Bool.{cases_lt}
use Rattle.std.proofs.lemmas.List.{get_or_past, ext_get_or}
use Rattle.std.proofs.lemmas.List.FromFn.{length-map-range_with_len, get_or-map-range_with_len}
use Rattle.tv_kleene.specs.declared.K3.{K3}
use Rattle.tv_kleene.specs.declared.K3.TheVariants.{No}
use Rattle.tv_row.specs.Places.{word_at, value_in, row_of}
use Rattle.tv_row.specs.RowForm.{HoldsRow, row_words}
use Rattle.tv_row.specs.declared.row.Row.TheInside.{Inside}

length-row : (words : List (List K3)) (size : ℕ) → length (row_of words size 0) ≡ size
unfolding row_of
length-row words size = length-map-range_with_len (value_in words 0) 0 size

read_row : (words : List (List K3)) (size c : ℕ) → c < size
    → get_or (row_of words size 0) c No ≡ value_in words 0 c
unfolding row_of
read_row words size c lt = get_or-map-range_with_len (value_in words 0) 0 size c c No lt (omega arith)

-- the value at a place of the row, and No past it
pub read_held : (words : List (List K3)) (size c : ℕ) → HoldsRow words size → c < 256
    → get_or (row_of words size 0) c No ≡ value_in words 0 c
read_held words size c h low =
    ⊎_elim
    (λ lt. read_row words size c lt)
    (λ past.
    get_or_past (row_of words size 0) c No (omega (arith, length-row words size)) ∙ sym (h.unused c past low))
    (cases_lt c size)

pub words_back : (words : List (List K3)) (size : ℕ) → HoldsRow words size
    → row_words (row_of words size 0) ≡ words
words_back words size h =
    let values : List K3 = row_of words size 0
    in let column : ℕ → ℕ → K3 = λ p c. get_or values (64 * p + c) No
    in let word : ℕ → List K3 = λ p. map (column p) (range_with_len 0 64)
    in let len : length words ≡ 4 = h.as_many
    in ext_get_or [] (row_words values) words (length-map-range_with_len word 0 4 ∙ sym len)
    (λ p l.
    let lp : p < 4 = omega (arith, length-map-range_with_len word 0 4)
    in let long : length (word_at words p) ≡ 64 = h.words_have p [] (omega arith)
    in get_or-map-range_with_len word 0 4 p p [] lp (omega arith)
    ∙ ext_get_or No (word p) (word_at words p) (length-map-range_with_len (column p) 0 64 ∙ sym long)
    (λ c m.
    let lc : c < 64 = omega (arith, length-map-range_with_len (column p) 0 64)
    in let at : 0 + (64 * p + c) / 64 ≡ p = omega arith
    in let low : (64 * p + c) % 64 ≡ c = omega arith
    in get_or-map-range_with_len (column p) 0 64 c c No lc (omega arith)
    ∙ read_held words size (64 * p + c) h (omega arith)
    ∙ ap (λ q. get_or (word_at words q) ((64 * p + c) % 64) No) at
    ∙ ap (λ i. get_or (word_at words p) i No) low))

pub row_back : (r : Inside) → HoldsRow r.words r.size
    → record { words = row_words (row_of r.words r.size 0); size = length (row_of r.words r.size 0) } ≡ r
row_back r h = rw (words_back r.words r.size h, length-row r.words r.size) refl
