-- Flags that are kept as bits of words.
use Rattle.std.proofs.Common.{ℕ, ◌≡◌, ◌≢◌, ◌<◌, ◌≤◌, ◌+◌, ◌*◌, ◌/◌, ◌%◌, ◌⊎◌, inl, inr, ⊎_elim, Bool, true}
use Rattle.std.proofs.Common.{false, cond, eqb, List, Option, Some, None, length, get_or, set, replicate, sym}
use Rattle.std.proofs.Common.{ap, ◌∙◌, arith, eq-eqb, ne_eqb, ◌==◌, if◌then◌else◌}
use Rattle.std.specs.Prelude.{MatchOption, IfSome, bit_and}
use Rattle.std.proofs.lemmas.Bool.{and_parts, cases_eq, cases_lt}
use Rattle.std.proofs.lemmas.List.{ext_get_or, length-set, length-replicate, get_or-replicate}
use Rattle.std.proofs.lemmas.List.{get_or-set_same, get_or-set_other, get_or_past}
use Rattle.std.proofs.lemmas.List.FromFn.{length-map-range_with_len, get_or-map-range_with_len}
use Rattle.std.proofs.lemmas.Nat.Bits.{bit_at_ones}
use Rattle.tv_row.specs.Bits.{bit}
use Rattle.tv_row.specs.BitLaws.{bit-and, bit-zero}
use Rattle.tv_row.specs.FlagWords.{flag_at, flags_in, HoldsFlags}

pub length-flags_in : (words : List ℕ) (count : ℕ) → length (flags_in words count) ≡ count
unfolding flags_in
length-flags_in words count = length-map-range_with_len (flag_at words) 0 count

pub get_or-flags_in : (words : List ℕ) (count n : ℕ) → n < count → get_or (flags_in words count) n false ≡ flag_at words n
unfolding flags_in
get_or-flags_in words count n lt = get_or-map-range_with_len (flag_at words) 0 count n n false lt (omega arith)

pub flag_past : (words : List ℕ) (count n : ℕ) → count ≤ n → get_or (flags_in words count) n false ≡ false
flag_past words count n le = get_or_past (flags_in words count) n false (omega (arith, length-flags_in words count))

-- a flag is read: false where it is past the end, or where its bit is
pub flag_false : (words : List ℕ) (count n : ℕ) → flag_at words n ≡ false → get_or (flags_in words count) n false ≡ false
flag_false words count n e =
    ⊎_elim (λ lt. get_or-flags_in words count n lt ∙ e) (λ le. flag_past words count n le) (cases_lt n count)

-- ---- equal flags

word_bit : (on : Bool) (j : ℕ) → j < 64 → bit (if on then 18446744073709551615 else 0) j ≡ on
word_bit true j low = ap (λ x. eqb x 1) (bit_at_ones 64 j low)
word_bit false j low = bit-zero j

pub flags_alike : (count n : ℕ) (on : Bool) (word : ℕ) → word ≡ (if on then 18446744073709551615 else 0) → count ≤ 64 * n
    → flags_in (replicate n word) count ≡ replicate count on
flags_alike count n on word is room =
    ext_get_or false (flags_in (replicate n word) count) (replicate count on)
    (length-flags_in (replicate n word) count ∙ sym (length-replicate count on))
    (λ c l.
    let lt : c < count = omega (arith, length-flags_in (replicate n word) count)
    in get_or-flags_in (replicate n word) count c lt
    ∙ ap (λ w. bit w (c % 64)) (get_or-replicate n (c / 64) word 0 (omega arith) ∙ is) ∙ word_bit on (c % 64) (omega arith)
    ∙ sym (get_or-replicate count c on false lt))

-- ---- one flag is put

pub flag_put : (words : List ℕ) (count number : ℕ) (on : Bool) (word : ℕ) → HoldsFlags words count → number < count
    → ((j : ℕ) → j < 64 → bit word j ≡ (if j == number % 64 then on else bit (get_or words (number / 64) 0) j))
    → flags_in (set words (number / 64) word) count ≡ set (flags_in words count) number on
flag_put words count number on word h lt is =
    ext_get_or false (flags_in new count) (set (flags_in words count) number on)
    (length-flags_in new count ∙ sym (length-set (flags_in words count) number on ∙ length-flags_in words count))
    (λ n l. at n (omega (arith, length-flags_in new count)) (cases_eq n number) (cases_eq (n / 64) (number / 64)))
  where
    new : List ℕ
    new = set words (number / 64) word

    within : number / 64 < length words
    within = omega (arith, h.room, lt)

    bit_here : (n : ℕ) → n / 64 ≡ number / 64 → flag_at new n ≡ (if n % 64 == number % 64 then on else flag_at words n)
    bit_here n e =
        ap (λ p. bit (get_or new p 0) (n % 64)) e ∙ ap (λ w. bit w (n % 64)) (get_or-set_same words (number / 64) word 0 within)
        ∙ is (n % 64) (omega arith)
        ∙ ap (λ p. if n % 64 == number % 64 then on else bit (get_or words p 0) (n % 64)) (sym e)

    at : (n : ℕ) → n < count → (n ≡ number) ⊎ (n ≢ number) → (n / 64 ≡ number / 64) ⊎ (n / 64 ≢ number / 64)
        → get_or (flags_in new count) n false ≡ get_or (set (flags_in words count) number on) n false
    at n ln (inl e) same =
        get_or-flags_in new count n ln
        ∙ bit_here n (ap (λ m. m / 64) e)
        ∙ ap (λ b. cond b on (flag_at words n)) (eq-eqb (n % 64) (number % 64) (ap (λ m. m % 64) e))
        ∙ sym (ap (λ m. get_or (set (flags_in words count) number on) m false) e
        ∙ get_or-set_same (flags_in words count) number on false (omega (arith, length-flags_in words count)))
    at n ln (inr ne) (inl e) =
        get_or-flags_in new count n ln ∙ bit_here n e
        ∙ ap (λ b. cond b on (flag_at words n)) (ne_eqb (n % 64) (number % 64) (λ f. ne (omega arith)))
        ∙ sym (get_or-set_other (flags_in words count) number n on false ne ∙ get_or-flags_in words count n ln)
    at n ln (inr ne) (inr apart) =
        get_or-flags_in new count n ln
        ∙ ap (λ w. bit w (n % 64)) (get_or-set_other words (number / 64) (n / 64) word 0 apart)
        ∙ sym (get_or-set_other (flags_in words count) number n on false ne ∙ get_or-flags_in words count n ln)

-- ---- the first flag that is true

pub found_below : (words : List ℕ) (count from at found number word : ℕ) (r : Option ℕ) → word ≡ get_or words (at / 64) 0
    → number ≡ at / 64 * 64 + found → from ≤ at → ((n : ℕ) → from ≤ n → n < at → flag_at words n ≡ false)
    → (at % 64 ≤ found) × (found < 64) × (bit word found ≡ true) × ((j : ℕ) → at % 64 ≤ j → j < found → bit word j ≡ false)
    → MatchOption r (count ≤ number) (λ n. (n ≡ number) × (n < count))
    → MatchOption r ((n : ℕ) → from ≤ n → get_or (flags_in words count) n false ≡ false)
    (λ k. (k < length (flags_in words count)) × (get_or (flags_in words count) k false ≡ true)
    × ((n : ℕ) → from ≤ n → n < k → get_or (flags_in words count) n false ≡ false))
found_below words count from at found number word r word_is number_is le none h below = cases r below
  where
    before : (n : ℕ) → from ≤ n → n < number → flag_at words n ≡ false
    before n ln lt =
        ⊎_elim (λ early. none n ln early)
        (λ late.
        let place : n / 64 ≡ at / 64 = omega (arith, number_is, lt, h.1)
        in ap (λ p. bit (get_or words p 0) (n % 64)) place ∙ ap (λ w. bit w (n % 64)) (sym word_is)
        ∙ h.3 (n % 64) (omega arith) (omega (arith, number_is, lt, h.1)))
        (cases_lt n at)

    here : flag_at words number ≡ true
    here =
        let place : number / 64 ≡ at / 64 = omega (arith, number_is, h.1)
        in let low : number % 64 ≡ found = omega (arith, number_is, h.1)
        in ap (λ p. bit (get_or words p 0) (number % 64)) place ∙ ap (λ w. bit w (number % 64)) (sym word_is) ∙ ap (bit word) low ∙ h.2

    cases : (r : Option ℕ) → MatchOption r (count ≤ number) (λ n. (n ≡ number) × (n < count))
        → MatchOption r ((n : ℕ) → from ≤ n → get_or (flags_in words count) n false ≡ false)
        (λ k. (k < length (flags_in words count)) × (get_or (flags_in words count) k false ≡ true)
        × ((n : ℕ) → from ≤ n → n < k → get_or (flags_in words count) n false ≡ false))
    cases None past =
        λ n ln.
        ⊎_elim (λ lt. flag_false words count n (before n ln (omega (arith, lt, past)))) (λ le. flag_past words count n le) (cases_lt n count)
    cases (Some k) (e, lt) = (
      omega (arith, lt, length-flags_in words count),
      get_or-flags_in words count k lt ∙ ap (flag_at words) e ∙ here,
      λ n ln under. flag_false words count n (before n ln (omega (arith, e, under))),
    )

-- it isn't below the number where the search begins
pub found_from : (count from at found number : ℕ) (r : Option ℕ) → number ≡ at / 64 * 64 + found → from ≤ at → at % 64 ≤ found
    → MatchOption r (count ≤ number) (λ n. (n ≡ number) × (n < count)) → IfSome r (λ k. from ≤ k)
found_from count from at found number None is le low past = tt
found_from count from at found number (Some k) is le low (e, lt) = omega arith

-- a flag that is found among those that a mask leaves is true
pub other_found : (words : List ℕ) (count at found number word mask : ℕ) (r : Option ℕ) → word ≡ get_or words (at / 64) 0
    → number ≡ at / 64 * 64 + found → found < 64 → bit (bit_and word mask) found ≡ true
    → MatchOption r (count ≤ number) (λ n. (n ≡ number) × (n < count))
    → IfSome r (λ k. (k < length (flags_in words count)) × (get_or (flags_in words count) k false ≡ true))
other_found words count at found number word mask None word_is number_is low set past = tt
other_found words count at found number word mask (Some k) word_is number_is low set (e, lt) =
    (omega (arith, lt, length-flags_in words count), get_or-flags_in words count k lt ∙ ap (flag_at words) e ∙ here)
  where
    kept : bit word found ≡ true
    kept = (and_parts (bit word found) (bit mask found) (sym (bit-and word mask found) ∙ set)).0

    here : flag_at words number ≡ true
    here =
        let place : number / 64 ≡ at / 64 = omega (arith, number_is, low)
        in let of : number % 64 ≡ found = omega (arith, number_is, low)
        in ap (λ p. bit (get_or words p 0) (number % 64)) place ∙ ap (λ w. bit w (number % 64)) (sym word_is) ∙ ap (bit word) of ∙ kept

-- a number of the flags as they are seen is below their count
pub below_count : (words : List ℕ) (count number : ℕ) (flags : List Bool) → flags_in words count ≡ flags
    → number < length flags → number < count
below_count words count number flags view lt = omega (arith, lt, ap length view, length-flags_in words count)
