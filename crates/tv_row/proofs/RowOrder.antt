-- Rows compare, and are mixed, as their words.
use Rattle.std.proofs.Common.{ℕ, ◌≡◌, ◌*◌, ◌+◌, List, [], ◌∷◌, ◌<◌, ◌≤◌, length, get_or, take, fold, refl}
use Rattle.std.proofs.Common.{sym, ap, ◌∙◌, arith, Less, Equal, Greater, min, ◌/◌, ◌%◌}
use Rattle.std.specs.declared.cmp.Ordering.{Ordering}
use Rattle.std.specs.Ordering.{ordering_then}
use Rattle.std.specs.Cmp.Lexicographic.{slice_cmp}
use Rattle.std.proofs.lemmas.List.{ext_get_or, length-take-le, get_or-take}
use Rattle.tv_kleene.specs.declared.K3.{K3}
use Rattle.tv_kleene.specs.declared.K3.TheVariants.{No}
use Rattle.tv_row.specs.Bits.{value_cmp}
use Rattle.tv_row.specs.Places.{word_at, value_in, row_of, rows_of, HoldsCells}
use Rattle.tv_row.specs.RowForm.{HoldsRow}
use Rattle.tv_row.specs.RowLaws.{words_back}
use Rattle.tv_row.specs.Mixed.{word_mixed, row_mixed}
use Rattle.tv_row.proofs.CompareRows.{words_as_rows}
use Rattle.tv_row.proofs.PlaceLaws.{length-row_of, get_or-row_of}

then_nothing : (o : Ordering) → ordering_then o Equal ≡ o
then_nothing Less = refl
then_nothing Equal = refl
then_nothing Greater = refl

-- the words that a row takes hold it
module _ (words : List (List K3)) (size used : ℕ) (h : HoldsRow words size) (room : size ≤ 64 * used) (few : used ≤ 4) where
  long : length (take used words) ≡ used
  long = length-take-le used words (omega (arith, few, h.as_many))

  value_used : (c : ℕ) → c < 64 * used → value_in (take used words) 0 c ≡ value_in words 0 c
  value_used c lt = ap (λ word. get_or word (c % 64) No) (get_or-take used words (0 + c / 64) [] (omega arith))

  cells : HoldsCells (take used words) used 1 size
  cells = record {
    words_have = λ p d lt.
        ap length (get_or-take used words p d (omega (arith, long))) ∙ h.words_have p d (omega (arith, long, few, h.as_many));
    as_many = omega (arith, long);
    room = room;
    unused = λ row column lr past low.
        (let none : 0 * used ≡ 0 = omega arith
        in let first : row * used ≡ 0 = ap (λ n. n * used) (let zeroth : row ≡ 0 = omega arith in zeroth) ∙ none
        in ap (λ start. value_in (take used words) start column) first ∙ value_used column low ∙ h.unused column past (omega (arith, few)));
  }

  row_used : rows_of (take used words) used 1 size ≡ row_of words size 0 ∷ []
  unfolding rows_of
  row_used =
      let none : 0 * used ≡ 0 = omega arith
      in ap (λ start. row_of (take used words) size start ∷ []) none
      ∙ ap (λ row. row ∷ [])
      (ext_get_or No (row_of (take used words) size 0) (row_of words size 0)
      (length-row_of (take used words) size 0 ∙ sym (length-row_of words size 0))
      (λ c l.
      let lt : c < size = omega (arith, length-row_of (take used words) size 0)
      in get_or-row_of (take used words) size 0 c lt ∙ value_used c (omega arith) ∙ sym (get_or-row_of words size 0 c lt)))

pub rows_compare : (words others : List (List K3)) (size size' used : ℕ) → HoldsRow words size → HoldsRow others size'
    → length (row_of words size 0) ≡ length (row_of others size' 0) → size ≤ 64 * used → used ≤ 4
    → slice_cmp (slice_cmp value_cmp) (take used words) (take used others) ≡ slice_cmp value_cmp (row_of words size 0) (row_of others size' 0)
rows_compare words others size size' used h g same room few =
    let sizes : size' ≡ size = sym (length-row_of others size' 0) ∙ sym same ∙ length-row_of words size 0
    in let as_is : HoldsRow others size = rw (← sizes) g
    in words_as_rows (take used words) (take used others) used 1 size (cells words size used h room few) (cells others size used as_is room few)
    ∙ ap (λ rows. slice_cmp (slice_cmp value_cmp) rows (rows_of (take used others) used 1 size)) (row_used words size used h room few)
    ∙ ap (slice_cmp (slice_cmp value_cmp) (row_of words size 0 ∷ [])) (row_used others size used as_is room few)
    ∙ then_nothing (slice_cmp value_cmp (row_of words size 0) (row_of others size 0))
    ∙ ap (λ n. slice_cmp value_cmp (row_of words size 0) (row_of others n 0)) (sym sizes)

-- rows of at most 64 values compare as their first words
pub first_words_compare : (words others : List (List K3)) (size size' : ℕ) → HoldsRow words size → HoldsRow others size'
    → length (row_of words size 0) ≡ length (row_of others size' 0) → size ≤ 64
    → slice_cmp value_cmp (word_at words 0) (word_at others 0) ≡ slice_cmp value_cmp (row_of words size 0) (row_of others size' 0)
first_words_compare words others size size' h g same low =
    sym (ap (λ ws. slice_cmp (slice_cmp value_cmp) ws (take 1 others)) (take_first words (omega (arith, h.as_many)))
    ∙ ap (slice_cmp (slice_cmp value_cmp) (word_at words 0 ∷ [])) (take_first others (omega (arith, g.as_many)))
    ∙ then_nothing (slice_cmp value_cmp (word_at words 0) (word_at others 0)))
    ∙ rows_compare words others size size' 1 h g same low (omega arith)
  where
    take_first : (ws : List (List K3)) → 0 < length ws → take 1 ws ≡ word_at ws 0 ∷ []
    take_first [] some = absurd (omega arith)
    take_first (w ∷ ws) some = refl

pub rows_mixed : (hash : ℕ) (words : List (List K3)) (size used : ℕ) → HoldsRow words size → used ≡ size / 64 + min 1 (size % 64)
    → fold word_mixed hash (take used words) ≡ row_mixed hash (row_of words size 0)
rows_mixed hash words size used h count =
    let long : length (row_of words size 0) ≡ size = length-row_of words size 0
    in ap (λ n. fold word_mixed hash (take n words)) (count ∙ sym (ap (λ n. n / 64 + min 1 (n % 64)) long))
    ∙ ap (λ ws. fold word_mixed hash (take (length (row_of words size 0) / 64 + min 1 (length (row_of words size 0) % 64)) ws))
    (sym (words_back words size h))
