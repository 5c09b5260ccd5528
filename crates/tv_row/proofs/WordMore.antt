-- More of what words say of their values.
use Rattle.std.proofs.Common.{ℕ, ◌≡◌, ◌≢◌, ◌<◌, ◌≤◌, ◌+◌, ◌-◌, ◌*◌, ◌/◌, ◌%◌, ◌^◌, zero, suc, Bool, true}
use Rattle.std.proofs.Common.{false, not, ◌&&◌, cond, eqb, ltb, List, [], ◌∷◌, length, map, get_or, replicate}
use Rattle.std.proofs.Common.{Option, None, Some, refl, sym, ap, ◌∙◌, ⊎_elim, w64, arith}
use Rattle.std.proofs.lemmas.Bool.{cases_lt, lt-ltb, le-ltb}
use Rattle.std.proofs.lemmas.Nat.{and_le_l, one_shl, shr-shr, shr_le}
use Rattle.std.proofs.lemmas.Nat.Bits.{bit_at_ones, bit_at_ones_above, bit_at-trailing_zeros, bit_at_above}
use Rattle.std.proofs.lemmas.List.{get_or-map, get_or-replicate, length-replicate, length-map}
use Rattle.std.specs.Prelude.{bit_and, MatchOption}
use Rattle.std.specs.Int.{bit_at, bit_not, trailing_zeros}
use Rattle.tv_kleene.proofs.Lattice.{larger-yes}
use Rattle.tv_kleene.specs.declared.K3.{K3}
use Rattle.tv_kleene.specs.declared.K3.TheVariants.{No, Half, Yes}
use Rattle.tv_kleene.specs.Kleene.{smaller_of, larger_of, negation_of}
use Rattle.tv_row.specs.Bits.{bit, value_of, value_at, values_of, IsWord, padded, is_possible, is_certain}
use Rattle.tv_row.specs.Bits.{greatest_in}
use Rattle.tv_row.specs.BitLaws.{bit-and, bit-not, bit-zero, length-values_of, get_or-values_of}
use Rattle.tv_row.proofs.WordOps.{values_are, padded_values}

-- ---- bits

pub ones_all : (n j : ℕ) → n ≡ 64 → j < 64 → bit (2 ^ 64 - 1) j ≡ ltb j n
ones_all n j e low = ap (λ x. eqb x 1) (bit_at_ones 64 j low) ∙ sym (lt-ltb j n (omega arith))

pub ones_some : (n j : ℕ) → n < 64 → bit (1 * 2 ^ n % 2 ^ 64 - 1) j ≡ ltb j n
ones_some n j lt =
    ap (λ x. bit (x - 1) j) (one_shl n 64 lt)
    ∙ ⊎_elim
    (λ before. ap (λ x. eqb x 1) (bit_at_ones n j before) ∙ sym (lt-ltb j n before))
    (λ after. ap (λ x. eqb x 1) (bit_at_ones_above n j after) ∙ sym (le-ltb j n after))
    (cases_lt j n)

shifted : (word from j : ℕ) → from ≤ j → bit word j ≡ bit (word / 2 ^ from) (j - from)
shifted word from j le =
    let e : j ≡ from + (j - from) = omega arith
    in ap (bit word) e ∙ ap (λ x. eqb (x % 2) 1) (sym (shr-shr word from (j - from)))

pub none_left : (word from : ℕ) → word / 2 ^ from ≡ 0 → (j : ℕ) → from ≤ j → j < 64 → bit word j ≡ false
none_left word from e j le low = shifted word from j le ∙ ap (λ x. bit x (j - from)) e ∙ bit-zero (j - from)

pub first_left : (word from : ℕ) → word < 2 ^ 64 → word / 2 ^ from ≢ 0
    → (from ≤ from + trailing_zeros w64 (word / 2 ^ from)) × (from + trailing_zeros w64 (word / 2 ^ from) < 64)
    × (bit word (from + trailing_zeros w64 (word / 2 ^ from)) ≡ true)
    × ((j : ℕ) → from ≤ j → j < from + trailing_zeros w64 (word / 2 ^ from) → bit word j ≡ false)
first_left word from fits some =
    let n : ℕ = word / 2 ^ from
    in let place : ℕ = trailing_zeros w64 n
    in let low : n < 2 ^ 64 = omega (arith, shr_le word from)
    in let h : (place < 64) × (bit_at n place ≡ 1) × ((i : ℕ) → i < place → bit_at n i ≡ 0) = bit_at-trailing_zeros w64 n (omega arith) low
    in let at : bit_at word (from + place) ≡ 1 = ap (λ x. x % 2) (sym (shr-shr word from place)) ∙ h.1
    in (
      omega arith,
      ⊎_elim (λ lt. lt) (λ ge. absurd (omega (arith, bit_at_above word 64 (from + place) fits ge, at))) (cases_lt (from + place) 64),
      ap (λ x. eqb x 1) at,
      λ j le lt. shifted word from j le ∙ ap (λ x. eqb x 1) (h.2 (j - from) (omega arith)),
    )

-- ---- values

pub no_yes : (may must : Bool) → must ≡ false → value_of may must ≢ Yes
no_yes false false e = λ y. cc
no_yes false true e = λ y. cc
no_yes true false e = λ y. cc
no_yes true true e = λ y. cc

pub is_yes : (may must : Bool) → (must && may) ≡ must → must ≡ true → value_of may must ≡ Yes
is_yes false false h e = cc
is_yes false true h e = cc
is_yes true false h e = cc
is_yes true true h e = refl

pub first_yes_is : (may must from : ℕ) (values : List K3) (r : Option ℕ) → IsWord may must → values_of may must ≡ values
    → MatchOption r ((j : ℕ) → from ≤ j → j < 64 → bit must j ≡ false)
    (λ i. (from ≤ i) × (i < 64) × (bit must i ≡ true) × ((j : ℕ) → from ≤ j → j < i → bit must j ≡ false))
    → MatchOption r ((j : ℕ) → from ≤ j → j < 64 → get_or values j No ≢ Yes)
    (λ i. (from ≤ i) × (i < 64) × (get_or values i No ≡ Yes) × ((j : ℕ) → from ≤ j → j < i → get_or values j No ≢ Yes))
first_yes_is may must from values None w e h =
    λ j le low y. no_yes (bit may j) (bit must j) (h j le low) (sym (get_or-values_of may must j low) ∙ ap (λ v. get_or v j No) e ∙ y)
first_yes_is may must from values (Some i) w e h = (
  h.0,
  h.1,
  sym (ap (λ v. get_or v i No) e) ∙ get_or-values_of may must i h.1 ∙ is_yes (bit may i) (bit must i) (w.within i h.1) h.2,
  λ j le lt y. no_yes (bit may j) (bit must j) (h.3 j le lt) (sym (get_or-values_of may must j (omega (arith, h.1))) ∙ ap (λ v. get_or v j No) e ∙ y),
)

pub first_possible_is : (may must from : ℕ) (values : List K3) (r : Option ℕ) → values_of may must ≡ values
    → MatchOption r ((j : ℕ) → from ≤ j → j < 64 → bit may j ≡ false)
    (λ i. (from ≤ i) × (i < 64) × (bit may i ≡ true) × ((j : ℕ) → from ≤ j → j < i → bit may j ≡ false))
    → MatchOption r ((j : ℕ) → from ≤ j → j < 64 → get_or values j No ≡ No)
    (λ i. (from ≤ i) × (i < 64) × (get_or values i No ≢ No) × ((j : ℕ) → from ≤ j → j < i → get_or values j No ≡ No))
first_possible_is may must from values None e h =
    λ j le low. sym (ap (λ v. get_or v j No) e) ∙ get_or-values_of may must j low ∙ ap (λ m. value_of m (bit must j)) (h j le low)
first_possible_is may must from values (Some i) e h = (
  h.0,
  h.1,
  λ y. some (bit must i) (sym (sym (ap (λ v. get_or v i No) e) ∙ get_or-values_of may must i h.1 ∙ ap (λ m. value_of m (bit must i)) h.2) ∙ y),
  λ j le lt. sym (ap (λ v. get_or v j No) e) ∙ get_or-values_of may must j (omega (arith, h.1))
      ∙ ap (λ m. value_of m (bit must j)) (h.3 j le lt),
)
  where
    some : (must : Bool) → value_of true must ≡ No → ⊥
    some false e = cc
    some true e = cc

-- ---- operations

pub capped_no : (values : List K3) → length values ≡ 64 → values_of 0 0 ≡ map (smaller_of No) values
capped_no values len =
    values_are 0 0 (map (smaller_of No) values) (length-map values (smaller_of No) ∙ len)
    (λ i low. get_or-map (smaller_of No) values i No No (omega arith) ∙ sym (ap (λ m. value_of m (bit 0 i)) (bit-zero i)))

half_value : (may must : Bool) → value_of may false ≡ smaller_of Half (value_of may must)
half_value false must = refl
half_value true false = refl
half_value true true = refl

pub capped_half : (may must : ℕ) → values_of may 0 ≡ map (smaller_of Half) (values_of may must)
capped_half may must =
    let len : length (values_of may must) ≡ 64 = length-values_of may must
    in values_are may 0 (map (smaller_of Half) (values_of may must)) (length-map (values_of may must) (smaller_of Half) ∙ len)
    (λ i low.
    get_or-map (smaller_of Half) (values_of may must) i No No (omega arith) ∙ ap (smaller_of Half) (get_or-values_of may must i low)
    ∙ sym (ap (value_of (bit may i)) (bit-zero i) ∙ half_value (bit may i) (bit must i)))

negated : (a b t : Bool) → (b && a) ≡ b → value_of (not b && t) (not a && t) ≡ cond t (negation_of (value_of a b)) No
negated false false false h = refl
negated false false true h = refl
negated false true false h = cc
negated false true true h = cc
negated true false false h = refl
negated true false true h = refl
negated true true false h = refl
negated true true true h = refl

negated_within : (a b t : Bool) → (b && a) ≡ b → ((not a && t) && (not b && t)) ≡ (not a && t)
negated_within false false false h = refl
negated_within false false true h = refl
negated_within false true false h = cc
negated_within false true true h = cc
negated_within true false false h = refl
negated_within true false true h = refl
negated_within true true false h = refl
negated_within true true true h = refl

kept_value : (a b t : Bool) → value_of (a && t) (b && t) ≡ cond t (value_of a b) No
kept_value false false false = refl
kept_value false false true = refl
kept_value false true false = refl
kept_value false true true = refl
kept_value true false false = refl
kept_value true false true = refl
kept_value true true false = refl
kept_value true true true = refl

kept_within : (a b t : Bool) → (b && a) ≡ b → ((b && t) && (a && t)) ≡ (b && t)
kept_within false false t h = refl
kept_within false true t h = cc
kept_within true false t h = refl
kept_within true true false h = refl
kept_within true true true h = refl

module _ (n may must ones : ℕ) (w : IsWord may must) (mask : (j : ℕ) → j < 64 → bit ones j ≡ ltb j n) (le : n ≤ 64) where
  masked : (word i : ℕ) → word < 2 ^ 64 → i < 64 → bit (bit_and (bit_not w64 word) ones) i ≡ (not (bit word i) && ltb i n)
  masked word i fits low = bit-and (bit_not w64 word) ones i ∙ (rw (bit-not word i fits low, mask i low) refl)

  kept : (word i : ℕ) → i < 64 → bit (bit_and word ones) i ≡ (bit word i && ltb i n)
  kept word i low = bit-and word ones i ∙ (rw (mask i low) refl)

  pub first_values : values_of (bit_and may ones) (bit_and must ones) ≡ padded n (values_of may must)
  first_values =
      padded_values n (bit_and may ones) (bit_and must ones) (values_of may must) le (length-values_of may must)
      (λ i low.
      (rw (kept may i low, kept must i low) (kept_value (bit may i) (bit must i) (ltb i n)))
      ∙ ap (λ k. cond (ltb i n) k No) (sym (get_or-values_of may must i low)))

  pub first_is_word : IsWord (bit_and may ones) (bit_and must ones)
  first_is_word = record {
    may_fits = omega (arith, and_le_l may ones, w.may_fits);
    must_fits = omega (arith, and_le_l must ones, w.must_fits);
    within = λ i low. rw (kept may i low, kept must i low) (kept_within (bit may i) (bit must i) (ltb i n) (w.within i low));
  }

  pub not_values : values_of (bit_and (bit_not w64 must) ones) (bit_and (bit_not w64 may) ones) ≡ padded n (map negation_of (values_of may must))
  not_values =
      let len : length (values_of may must) ≡ 64 = length-values_of may must
      in padded_values n (bit_and (bit_not w64 must) ones) (bit_and (bit_not w64 may) ones) (map negation_of (values_of may must)) le
      (length-map (values_of may must) negation_of ∙ len)
      (λ i low.
      let at : get_or (map negation_of (values_of may must)) i No ≡ negation_of (value_at may must i) =
      get_or-map negation_of (values_of may must) i No No (omega arith) ∙ ap negation_of (get_or-values_of may must i low)
      in (rw (masked must i w.must_fits low, masked may i w.may_fits low) (negated (bit may i) (bit must i) (ltb i n) (w.within i low)))
      ∙ ap (λ k. cond (ltb i n) k No) (sym at))

  pub not_is_word : IsWord (bit_and (bit_not w64 must) ones) (bit_and (bit_not w64 may) ones)
  not_is_word = record {
    may_fits = omega (arith, and_le_l (bit_not w64 must) ones);
    must_fits = omega (arith, and_le_l (bit_not w64 may) ones);
    within = λ i low. rw (masked must i w.must_fits low, masked may i w.may_fits low) (negated_within (bit may i) (bit must i) (ltb i n) (w.within i low));
  }

module _ (n ones : ℕ) (mask : (j : ℕ) → j < 64 → bit ones j ≡ ltb j n) (le : n ≤ 64) where
  pub of_values : (k : K3) → values_of (cond (is_possible k) ones 0) (cond (is_certain k) ones 0) ≡ padded n (replicate 64 k)
  of_values k =
      padded_values n (cond (is_possible k) ones 0) (cond (is_certain k) ones 0) (replicate 64 k) le (length-replicate 64 k)
      (λ i low. each k i low ∙ ap (λ v. cond (ltb i n) v No) (sym (get_or-replicate 64 i k No low)))
    where
      by_test : (k : K3) (t : Bool) → value_of (is_possible k && t) (is_certain k && t) ≡ cond t k No
      by_test No false = refl
      by_test No true = refl
      by_test Half false = refl
      by_test Half true = refl
      by_test Yes false = refl
      by_test Yes true = refl

      choice : (b : Bool) (i : ℕ) → i < 64 → bit (cond b ones 0) i ≡ (b && ltb i n)
      choice true i low = mask i low
      choice false i low = bit-zero i

      each : (k : K3) (i : ℕ) → i < 64 → value_at (cond (is_possible k) ones 0) (cond (is_certain k) ones 0) i ≡ cond (ltb i n) k No
      each k i low = rw (choice (is_possible k) i low, choice (is_certain k) i low) (by_test k (ltb i n))

-- ---- the greatest value

pub greatest_yes : (values : List K3) (i : ℕ) → get_or values i No ≡ Yes → greatest_in values ≡ Yes
greatest_yes [] i e = cc
greatest_yes (k ∷ values) zero e = rw e refl
greatest_yes (k ∷ values) (suc i) e = ap (larger_of k) (greatest_yes values i e) ∙ larger-yes k

pub greatest_no : (values : List K3) → ((i : ℕ) → i < length values → get_or values i No ≡ No) → greatest_in values ≡ No
greatest_no [] all = refl
greatest_no (k ∷ values) all = rw (all 0 (omega arith), greatest_no values (λ i lt. all (suc i) (omega arith))) refl

not_more : (k : K3) (others : K3) → k ≢ Yes → others ≢ Yes → larger_of k others ≢ Yes
not_more No o n m = m
not_more Half No n m = λ y. cc
not_more Half Half n m = λ y. cc
not_more Half Yes n m = m
not_more Yes o n m = absurd (n refl)

pub greatest_not_yes : (values : List K3) → ((i : ℕ) → i < length values → get_or values i No ≢ Yes) → greatest_in values ≢ Yes
greatest_not_yes [] all = λ y. cc
greatest_not_yes (k ∷ values) all = not_more k (greatest_in values) (all 0 (omega arith)) (greatest_not_yes values (λ i lt. all (suc i) (omega arith)))

half_before : (k others : K3) → (k ≡ Half) → others ≢ Yes → larger_of k others ≡ Half
half_before k No e n = rw e refl
half_before k Half e n = rw e refl
half_before k Yes e n = absurd (n refl)

half_after : (k others : K3) → k ≢ Yes → others ≡ Half → larger_of k others ≡ Half
half_after No o n e = e
half_after Half o n e = rw e refl
half_after Yes o n e = absurd (n refl)

pub greatest_half : (values : List K3) (i : ℕ) → get_or values i No ≡ Half → ((i : ℕ) → i < length values → get_or values i No ≢ Yes)
    → greatest_in values ≡ Half
greatest_half [] i e all = cc
greatest_half (k ∷ values) zero e all = half_before k (greatest_in values) e (greatest_not_yes values (λ i lt. all (suc i) (omega arith)))
greatest_half (k ∷ values) (suc i) e all =
    half_after k (greatest_in values) (all 0 (omega arith)) (greatest_half values i e (λ i lt. all (suc i) (omega arith)))

some_bit : (n : ℕ) → n < 2 ^ 64 → n ≢ 0 → (i : ℕ) × (i < 64) × (bit n i ≡ true)
some_bit n fits some =
    let h : (trailing_zeros w64 n < 64) × (bit_at n (trailing_zeros w64 n) ≡ 1) × ((i : ℕ) → i < trailing_zeros w64 n → bit_at n i ≡ 0) =
    bit_at-trailing_zeros w64 n (omega arith) fits
    in (trailing_zeros w64 n, h.0, ap (λ x. eqb x 1) h.1)

module _ (may must : ℕ) (values : List K3) where
  read_at : values_of may must ≡ values → (i : ℕ) → i < 64 → get_or values i No ≡ value_at may must i
  read_at e i low = ap (λ v. get_or v i No) (sym e) ∙ get_or-values_of may must i low

  long : values_of may must ≡ values → length values ≡ 64
  long e = ap length (sym e) ∙ length-values_of may must

  pub greatest_of_yes : IsWord may must → values_of may must ≡ values → must ≢ 0 → Yes ≡ greatest_in values
  greatest_of_yes w e some =
      let h : (i : ℕ) × (i < 64) × (bit must i ≡ true) = some_bit must w.must_fits some
      in sym (greatest_yes values h.0 (read_at e h.0 h.1 ∙ is_yes (bit may h.0) (bit must h.0) (w.within h.0 h.1) h.2))

  pub greatest_of_half : IsWord may must → values_of may must ≡ values → must ≡ 0 → may ≢ 0 → Half ≡ greatest_in values
  greatest_of_half w e none some =
      let h : (i : ℕ) × (i < 64) × (bit may i ≡ true) = some_bit may w.may_fits some
      in let low : length values ≡ 64 = long e
      in sym (greatest_half values h.0
      (read_at e h.0 h.1 ∙ ap (λ m. value_of m (bit must h.0)) h.2 ∙ ap (value_of true) (ap (λ n. bit n h.0) none ∙ bit-zero h.0))
      (λ i lt y. no_yes (bit may i) (bit must i) (ap (λ n. bit n i) none ∙ bit-zero i) (sym (read_at e i (omega arith)) ∙ y)))

  pub greatest_of_no : values_of may must ≡ values → may ≡ 0 → No ≡ greatest_in values
  greatest_of_no e none =
      let low : length values ≡ 64 = long e
      in sym (greatest_no values (λ i lt. read_at e i (omega arith) ∙ ap (λ m. value_of m (bit must i)) (ap (λ n. bit n i) none ∙ bit-zero i)))
