-- Rows none of whose values is Yes.
use Rattle.std.proofs.Common.{ℕ, ◌≡◌, ◌≢◌, ◌<◌, ◌≤◌, ◌+◌, ◌*◌, ◌/◌, ◌%◌, zero, suc, List, [], ◌∷◌, length}
use Rattle.std.proofs.Common.{get_or, refl, sym, ap, ◌∙◌, arith, ⊎_elim}
use Rattle.std.specs.Prelude.{All}
use Rattle.std.proofs.lemmas.Bool.{cases_lt}
use Rattle.std.proofs.lemmas.List.{get_or_past}
use Rattle.tv_kleene.specs.declared.K3.{K3}
use Rattle.tv_kleene.specs.declared.K3.TheVariants.{No, Half, Yes}
use Rattle.tv_row.specs.Bits.{bit, value_of, number_of, is_possible}
use Rattle.tv_row.specs.BitLaws.{bit_of_number, bit-zero, get_or-values_of, length-values_of}
use Rattle.tv_row.specs.Places.{row_of}
use Rattle.tv_row.specs.RowForm.{HoldsRow, half_word}
use Rattle.std.specs.List.{range_with_len}
use Rattle.std.proofs.Common.{map}
use Rattle.std.proofs.lemmas.List.{ext_get_or}
use Rattle.std.proofs.lemmas.List.FromFn.{length-map-range_with_len, get_or-map-range_with_len}
use Rattle.tv_row.specs.RowLaws.{read_held}
use Rattle.tv_row.proofs.PlaceLaws.{length-row_of, get_or-row_of}
use Rattle.tv_row.proofs.RowOps.{length_seen, FilledTo, four_filled, filled_holds, filled_row}

-- what isn't Yes is told by one bit
half_back : (k : K3) → k ≢ Yes → value_of (is_possible k) (bit 0 0) ≡ k
half_back No ne = refl
half_back Half ne = refl
half_back Yes ne = absurd (ne refl)

half_value : (word : List K3) (i : ℕ) → i < 64 → length word ≡ 64 → get_or word i No ≢ Yes
    → get_or (half_word (number_of is_possible word)) i No ≡ get_or word i No
half_value word i low long ne =
    get_or-values_of (number_of is_possible word) 0 i low
    ∙ ap (λ m. value_of m (bit 0 i)) (bit_of_number is_possible word i refl)
    ∙ ap (value_of (is_possible (get_or word i No))) (bit-zero i ∙ sym (bit-zero 0)) ∙ half_back (get_or word i No) ne

-- the words of a row, each told by one set of bits
module _ (now : List K3) (a b c d : List K3) (small : length now ≤ 256) (halves : All (λ k. k ≢ Yes) now)
    (la : length a ≡ 64) (lb : length b ≡ 64) (lc : length c ≡ 64) (ld : length d ≡ 64)
    (ea : (i : ℕ) → i < 64 → get_or a i No ≡ get_or now (64 * 0 + i) No) (eb : (i : ℕ) → i < 64 → get_or b i No ≡ get_or now (64 * 1 + i) No)
    (ec : (i : ℕ) → i < 64 → get_or c i No ≡ get_or now (64 * 2 + i) No) (ed : (i : ℕ) → i < 64 → get_or d i No ≡ get_or now (64 * 3 + i) No) where
  abbrev word : ℕ → List K3
  word p = get_or (a ∷ b ∷ c ∷ d ∷ []) p []

  abbrev half : ℕ → List K3
  half p = half_word (number_of is_possible (word p))

  never : (i : ℕ) → get_or now i No ≢ Yes
  never i e =
      ⊎_elim (λ lt. halves i No lt e) (λ past. none (sym (get_or_past now i No past) ∙ e)) (cases_lt i (length now))
    where
      none : No ≡ Yes → ⊥
      none e = cc

  seen : (p i : ℕ) → p < 4 → i < 64 → (length (word p) ≡ 64) × (get_or (word p) i No ≡ get_or now (64 * p + i) No)
  seen zero i lp li = (la, ea i li)
  seen (suc zero) i lp li = (lb, eb i li)
  seen (suc (suc zero)) i lp li = (lc, ec i li)
  seen (suc (suc (suc zero))) i lp li = (ld, ed i li)
  seen (suc (suc (suc (suc p)))) i lp li = absurd (omega arith)

  half_seen : (p i : ℕ) → p < 4 → i < 64 → get_or (half p) i No ≡ get_or now (64 * p + i) No
  half_seen p i lp li =
      let w : (length (word p) ≡ 64) × (get_or (word p) i No ≡ get_or now (64 * p + i) No) = seen p i lp li
      in half_value (word p) i li w.0 (λ e. never (64 * p + i) (sym w.1 ∙ e)) ∙ w.1

  filled : FilledTo (half_word (number_of is_possible a) ∷ half_word (number_of is_possible b) ∷ half_word (number_of is_possible c) ∷ half_word (number_of is_possible d) ∷ []) 4 half
  filled =
      four_filled (half_word (number_of is_possible a)) (half_word (number_of is_possible b)) (half_word (number_of is_possible c))
      (half_word (number_of is_possible d)) half refl refl refl refl

  long : (p : ℕ) → p < 4 → length (half p) ≡ 64
  long p lp = length-values_of (number_of is_possible (word p)) 0

  at : (column : ℕ) → column < 256 → get_or (half (column / 64)) (column % 64) No ≡ get_or now column No
  at column low =
      let back : 64 * (column / 64) + column % 64 ≡ column = omega arith
      in half_seen (column / 64) (column % 64) (omega arith) (omega arith) ∙ ap (λ i. get_or now i No) back

  past : (column : ℕ) → length now ≤ column → column < 256 → get_or (half (column / 64)) (column % 64) No ≡ No
  past column le low = at column low ∙ get_or_past now column No le

  pub halves_hold : (size : ℕ) → size ≡ length now
      → HoldsRow (half_word (number_of is_possible a) ∷ half_word (number_of is_possible b) ∷ half_word (number_of is_possible c) ∷ half_word (number_of is_possible d) ∷ []) size
  halves_hold size e =
      filled_holds (half_word (number_of is_possible a) ∷ half_word (number_of is_possible b) ∷ half_word (number_of is_possible c) ∷ half_word (number_of is_possible d) ∷ [])
      size 4 half filled (omega (arith, e, small)) (omega (arith, e, small)) long (λ column le low. past column (omega (arith, e, le)) (omega (arith, low)))

  pub halves_are : (size : ℕ) → size ≡ length now
      → row_of (half_word (number_of is_possible a) ∷ half_word (number_of is_possible b) ∷ half_word (number_of is_possible c) ∷ half_word (number_of is_possible d) ∷ []) size 0 ≡ now
  halves_are size e =
      filled_row (half_word (number_of is_possible a) ∷ half_word (number_of is_possible b) ∷ half_word (number_of is_possible c) ∷ half_word (number_of is_possible d) ∷ [])
      size 4 half filled (omega (arith, e, small)) (omega (arith, e, small)) long (λ column le low. past column (omega (arith, e, le)) (omega (arith, low)))
      now (sym e) (λ column lt. at column (omega (arith, e, lt, small)))

-- ---- one value more

module _ (words : List (List K3)) (size : ℕ) (now : List K3) (h : HoldsRow words size) (view : row_of words size 0 ≡ now)
    (small : length now < 256) where
  pub next_holds : HoldsRow words (size + 1)
  next_holds = record {
    words_have = h.words_have;
    as_many = h.as_many;
    small = omega (arith, small, length_seen words size now view);
    unused = λ c past low. h.unused c (omega (arith, past)) low;
  }

  pub next_is : row_of words (size + 1) 0 ≡ map (λ origin. get_or now origin No) (range_with_len 0 (length now + 1))
  next_is =
      let long : length now ≡ size = length_seen words size now view
      in ext_get_or No (row_of words (size + 1) 0) (map (λ origin. get_or now origin No) (range_with_len 0 (length now + 1)))
      (length-row_of words (size + 1) 0 ∙ ap (λ n. n + 1) (sym long)
      ∙ sym (length-map-range_with_len (λ origin. get_or now origin No) 0 (length now + 1)))
      (λ c l.
      let lt : c < size + 1 = omega (arith, l, length-row_of words (size + 1) 0)
      in get_or-row_of words (size + 1) 0 c lt ∙ sym (read_held words size c h (omega (arith, lt, long, small)))
      ∙ ap (λ (row : List K3). get_or row c No) view
      ∙ sym (get_or-map-range_with_len (λ origin. get_or now origin No) 0 (length now + 1) c c No (omega (arith, lt, long)) (omega arith)))
