-- The lowest vacant numbers, given to variables in order.
use Rattle.std.proofs.Common.{◌≡◌, ℕ, zero, suc, ◌+◌, ◌<◌, ◌≤◌, Bool, true, false, ◌||◌, get_or, set, List}
use Rattle.std.proofs.Common.{[], ◌∷◌, ◌++◌, length, refl, ap, ◌∙◌, arith, Some, None, lt-ltb}
use Rattle.std.specs.Prelude.{nat_lt}
use Rattle.std.specs.List.{list_any, position, position_or_len}
use Rattle.std.proofs.lemmas.List.Quantifiers.{position-Some}
use Rattle.tv_names.specs.Naming.{SlotForm, Vacant, Nameless, Named, is_vacant, is_named}
use Rattle.tv_names.specs.Numbers.{vacant_count, filled_with}

skip_nameless : (slots new : List SlotForm) → filled_with (Nameless ∷ slots) new ≡ Nameless ∷ filled_with slots new
skip_nameless slots [] = refl
skip_nameless slots (x ∷ new) = refl

skip_named : (name : List ℕ) (slots new : List SlotForm) → filled_with (Named name ∷ slots) new ≡ Named name ∷ filled_with slots new
skip_named name slots [] = refl
skip_named name slots (x ∷ new) = refl

fill_nowhere : (new : List SlotForm) → filled_with [] new ≡ []
fill_nowhere [] = refl
fill_nowhere (x ∷ new) = refl

-- variables, and others behind them
pub fill_append : (slots new more : List SlotForm) → list_any is_vacant new ≡ false → filled_with (filled_with slots new) more ≡ filled_with slots (new ++ more)
fill_append slots [] more h = refl
fill_append [] (x ∷ new) more h = fill_nowhere more
fill_append (Vacant ∷ slots) (Vacant ∷ new) more h = cc
fill_append (Vacant ∷ slots) (Nameless ∷ new) more h = skip_nameless (filled_with slots new) more ∙ ap (λ (q : List SlotForm). Nameless ∷ q) (fill_append slots new more h)
fill_append (Vacant ∷ slots) (Named name ∷ new) more h = skip_named name (filled_with slots new) more ∙ ap (λ (q : List SlotForm). Named name ∷ q) (fill_append slots new more h)
fill_append (Nameless ∷ slots) (x ∷ new) more h = skip_nameless (filled_with slots (x ∷ new)) more ∙ ap (λ (q : List SlotForm). Nameless ∷ q) (fill_append slots (x ∷ new) more h)
fill_append (Named name ∷ slots) (x ∷ new) more h = skip_named name (filled_with slots (x ∷ new)) more ∙ ap (λ (q : List SlotForm). Named name ∷ q) (fill_append slots (x ∷ new) more h)

-- each variable takes one vacant number
pub fill_count : (slots new : List SlotForm) → list_any is_vacant new ≡ false → length new ≤ vacant_count slots → vacant_count (filled_with slots new) + length new ≡ vacant_count slots
fill_count slots [] h fits = omega arith
fill_count [] (x ∷ new) h fits = absurd (omega arith)
fill_count (Vacant ∷ slots) (Vacant ∷ new) h fits = cc
fill_count (Vacant ∷ slots) (Nameless ∷ new) h fits = let rest = fill_count slots new h (omega arith) in omega arith
fill_count (Vacant ∷ slots) (Named name ∷ new) h fits = let rest = fill_count slots new h (omega arith) in omega arith
fill_count (Nameless ∷ slots) (x ∷ new) h fits = fill_count slots (x ∷ new) h fits
fill_count (Named name ∷ slots) (x ∷ new) h fits = fill_count slots (x ∷ new) h fits

-- ---- the first vacant number

pub record IsFirstVacant (slots : List SlotForm) (n : ℕ) (slot : SlotForm) : Type 0 where
  pub is : set slots n slot ≡ filled_with slots (slot ∷ [])
  pub some : 1 ≤ vacant_count slots

first_at : (slots : List SlotForm) (n : ℕ) (slot : SlotForm) → n < length slots → ((d : SlotForm) → is_vacant (get_or slots n d) ≡ true) → ((k : ℕ) (d : SlotForm) → k < n → is_vacant (get_or slots k d) ≡ false) → IsFirstVacant slots n slot
first_at [] n slot lt here before = absurd (omega arith)
first_at (Vacant ∷ slots) zero slot lt here before = record { is = refl; some = omega arith }
first_at (Nameless ∷ slots) zero slot lt here before = let h = here Vacant in absurd cc
first_at (Named name ∷ slots) zero slot lt here before = let h = here Vacant in absurd cc
first_at (Vacant ∷ slots) (suc n) slot lt here before = let h = before 0 Vacant (omega arith) in absurd cc
first_at (Nameless ∷ slots) (suc n) slot lt here before =
    let rest = first_at slots n slot (omega arith) here (λ k d less. before (suc k) d (omega arith)) in
    record { is = ap (λ (q : List SlotForm). Nameless ∷ q) rest.is; some = rest.some }
first_at (Named name ∷ slots) (suc n) slot lt here before =
    let rest = first_at slots n slot (omega arith) here (λ k d less. before (suc k) d (omega arith)) in
    record { is = ap (λ (q : List SlotForm). Named name ∷ q) rest.is; some = rest.some }

pub first_vacant : (slots : List SlotForm) (n : ℕ) (slot : SlotForm) → position is_vacant slots ≡ Some n → IsFirstVacant slots n slot
first_vacant slots n slot e =
    first_at slots n slot (position-Some is_vacant slots n Vacant e).0
    (λ d. (position-Some is_vacant slots n d e).1)
    (λ k d less. (position-Some is_vacant slots n d e).2 k less)

-- where nothing is found, nothing passes
pub none_passes : (p : SlotForm → Bool) (slots : List SlotForm) → position p slots ≡ None → list_any p slots ≡ false
none_passes p slots e = by (list_any p slots) refl
  where
    within : (xs : List SlotForm) → list_any p xs ≡ true → position_or_len p xs < length xs
    within [] h = cc
    within (x ∷ xs) h = step (p x) refl h (within xs)
      where
        step : (b : Bool) → p x ≡ b → (b || list_any p xs) ≡ true → (list_any p xs ≡ true → position_or_len p xs < length xs) → position_or_len p (x ∷ xs) < length (x ∷ xs)
        step true q k rest = rw q (omega arith)
        step false q k rest = let lt = rest k in rw q (omega arith)

    by : (b : Bool) → list_any p slots ≡ b → list_any p slots ≡ false
    by false h = h
    by true h = let found : nat_lt (position_or_len p slots) (length slots) ≡ true = lt-ltb (position_or_len p slots) (length slots) (within slots h) in absurd (let k = rw found at e in cc)

pub no_vacancy : (slots : List SlotForm) → list_any is_vacant slots ≡ false → vacant_count slots ≡ 0
no_vacancy [] h = refl
no_vacancy (Vacant ∷ slots) h = cc
no_vacancy (Nameless ∷ slots) h = no_vacancy slots h
no_vacancy (Named name ∷ slots) h = no_vacancy slots h

-- which names a further variable adds
pub filled_name : (name : List ℕ) (slots : List SlotForm) (slot : SlotForm) → 1 ≤ vacant_count slots → list_any (is_named name) (filled_with slots (slot ∷ [])) ≡ (is_named name slot || list_any (is_named name) slots)
filled_name name [] slot some = absurd (omega arith)
filled_name name (Vacant ∷ slots) slot some = refl
filled_name name (Nameless ∷ slots) slot some = filled_name name slots slot some
filled_name name (Named word ∷ slots) slot some = ap (λ (b : Bool). is_named name (Named word) || b) (filled_name name slots slot some) ∙ swap (is_named name (Named word)) (is_named name slot) (list_any (is_named name) slots)
  where
    swap : (a b c : Bool) → (a || (b || c)) ≡ (b || (a || c))
    swap true true c = refl
    swap true false c = refl
    swap false b c = refl
