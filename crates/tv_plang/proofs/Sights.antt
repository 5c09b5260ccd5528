-- Seeing positions one after the other gives their first occurrences.
use Rattle.std.proofs.Common.{ℕ, ◌≡◌, ◌∙◌, ◌⊎◌, ◌≤◌, length, ltb, arith, ◌+◌, Option, Some, None, List, []}
use Rattle.std.proofs.Common.{◌∷◌, ◌++◌, filter, Bool, true, false, not, ◌||◌, cond, eqb, inl, inr, ⊎_elim}
use Rattle.std.proofs.Common.{refl, sym, ap, append_assoc, append-nil, eq-eqb, ne_eqb}
use Rattle.std.specs.List.{fold, list_any, position, position_or_len}
use Rattle.std.proofs.lemmas.Bool.{cases_Bool, cases_eq, cases_lt, cond-true, cond-false, lt-ltb}
use Rattle.std.proofs.lemmas.List.Sums.{prefix_len-le-length}
use Rattle.tv_model.specs.Valid.{first_occurrences, without}
use Rattle.tv_plang.specs.Nodes.{seen}

abbrev is_among : List ℕ → ℕ → Bool
is_among ks k = list_any (λ m. eqb k m) ks

-- those of the second list that aren't in the first
abbrev beyond : List ℕ → List ℕ → List ℕ
beyond ks ys = filter (λ y. not (is_among ks y)) ys

beyond-none : (ys : List ℕ) → beyond [] ys ≡ ys
beyond-none [] = refl
beyond-none (y ∷ ys) = ap (λ zs. y ∷ zs) (beyond-none ys)

kept : (test : ℕ → Bool) (y : ℕ) (ys : List ℕ) → test y ≡ true → filter test (y ∷ ys) ≡ y ∷ filter test ys
kept test y ys passes = cond-true (test y) (y ∷ filter test ys) (filter test ys) passes

dropped : (test : ℕ → Bool) (y : ℕ) (ys : List ℕ) → test y ≡ false → filter test (y ∷ ys) ≡ filter test ys
dropped test y ys fails = cond-false (test y) (y ∷ filter test ys) (filter test ys) fails

-- what the first test drops, the second drops too
inner-filter : (p q : ℕ → Bool) → ((y : ℕ) → q y ≡ false → p y ≡ false) → (ys : List ℕ) → filter p (filter q ys) ≡ filter p ys
inner-filter p q drops [] = refl
inner-filter p q drops (y ∷ ys) = go (inner-filter p q drops ys) (cases_Bool (q y)) (cases_Bool (p y))
  where
    go : filter p (filter q ys) ≡ filter p ys → (q y ≡ true) ⊎ (q y ≡ false) → (p y ≡ true) ⊎ (p y ≡ false)
        → filter p (filter q (y ∷ ys)) ≡ filter p (y ∷ ys)
    go later (inl yes_q) (inl yes_p) =
        ap (filter p) (kept q y ys yes_q) ∙ kept p y (filter q ys) yes_p ∙ ap (λ zs. y ∷ zs) later ∙ sym (kept p y ys yes_p)
    go later (inl yes_q) (inr no_p) =
        ap (filter p) (kept q y ys yes_q) ∙ dropped p y (filter q ys) no_p ∙ later ∙ sym (dropped p y ys no_p)
    go later (inr no_q) both =
        ap (filter p) (dropped q y ys no_q) ∙ later ∙ sym (dropped p y ys (drops y no_q))

among-pushed : (ks : List ℕ) (x y : ℕ) → is_among (ks ++ x ∷ []) y ≡ (is_among ks y || eqb y x)
among-pushed [] x y = by (eqb y x)
  where
    by : (b : Bool) → (b || false) ≡ b
    by true = refl
    by false = refl
among-pushed (k ∷ ks) x y = by (eqb y k) (is_among (ks ++ x ∷ []) y) (is_among ks y) (eqb y x) (among-pushed ks x y)
  where
    by : (a b c d : Bool) → b ≡ (c || d) → (a || b) ≡ ((a || c) || d)
    by true b c d e = refl
    by false b c d e = e

-- those beyond a list and one more
beyond-pushed : (ks : List ℕ) (x : ℕ) (ys : List ℕ) → beyond (ks ++ x ∷ []) ys ≡ beyond ks (without x ys)
beyond-pushed ks x [] = refl
beyond-pushed ks x (y ∷ ys) = go (beyond-pushed ks x ys) (cases_eq y x) (cases_Bool (is_among ks y))
  where
    in_pushed : (b c : Bool) → is_among ks y ≡ b → eqb y x ≡ c → is_among (ks ++ x ∷ []) y ≡ (b || c)
    in_pushed b c e f = among-pushed ks x y ∙ ap (λ z. z || eqb y x) e ∙ ap (λ z. b || z) f

    or-true : (b : Bool) → (b || true) ≡ true
    or-true true = refl
    or-true false = refl

    go : beyond (ks ++ x ∷ []) ys ≡ beyond ks (without x ys) → (y ≡ x) ⊎ (y ≡ x → ⊥) → (is_among ks y ≡ true) ⊎ (is_among ks y ≡ false) → beyond (ks ++ x ∷ []) (y ∷ ys) ≡ beyond ks (without x (y ∷ ys))
    go later (inl e) old =
        let there : is_among (ks ++ x ∷ []) y ≡ true = in_pushed (is_among ks y) true refl (eq-eqb y x e) ∙ or-true (is_among ks y)
        in dropped (λ z. not (is_among (ks ++ x ∷ []) z)) y ys (ap not there)
        ∙ later
        ∙ ap (beyond ks) (sym (dropped (λ w. not (eqb w x)) y ys (ap not (eq-eqb y x e))))
    go later (inr ne) (inl old) =
        let there : is_among (ks ++ x ∷ []) y ≡ true = in_pushed true false old (ne_eqb y x ne)
        in dropped (λ z. not (is_among (ks ++ x ∷ []) z)) y ys (ap not there)
        ∙ later
        ∙ sym (ap (beyond ks) (kept (λ w. not (eqb w x)) y ys (ap not (ne_eqb y x ne)))
        ∙ dropped (λ z. not (is_among ks z)) y (without x ys) (ap not old))
    go later (inr ne) (inr new) =
        let there : is_among (ks ++ x ∷ []) y ≡ false = in_pushed false false new (ne_eqb y x ne)
        in kept (λ z. not (is_among (ks ++ x ∷ []) z)) y ys (ap not there)
        ∙ ap (λ zs. y ∷ zs) later
        ∙ sym (ap (beyond ks) (kept (λ w. not (eqb w x)) y ys (ap not (ne_eqb y x ne)))
        ∙ kept (λ z. not (is_among ks z)) y (without x ys) (ap not new))

seen-all : (ks xs : List ℕ) → fold seen ks xs ≡ ks ++ beyond ks (first_occurrences xs)
seen-all ks [] = sym (append-nil ks)
seen-all ks (x ∷ xs) = go (λ zs. seen-all zs xs) (cases_Bool (is_among ks x))
  where
    old_one : is_among ks x ≡ true → seen ks x ≡ ks
    old_one there = cond-true (is_among ks x) ks (ks ++ x ∷ []) there

    new_one : is_among ks x ≡ false → seen ks x ≡ ks ++ x ∷ []
    new_one none = cond-false (is_among ks x) ks (ks ++ x ∷ []) none

    same_one : is_among ks x ≡ true → (y : ℕ) → not (eqb y x) ≡ false → not (is_among ks y) ≡ false
    same_one there y fails =
        ⊎_elim (λ e. ap (λ z. not (is_among ks z)) e ∙ ap not there) (λ ne. absurd (cc (sym fails ∙ ap not (ne_eqb y x ne)))) (cases_eq y x)

    go : ((zs : List ℕ) → fold seen zs xs ≡ zs ++ beyond zs (first_occurrences xs)) → (is_among ks x ≡ true) ⊎ (is_among ks x ≡ false) → fold seen ks (x ∷ xs) ≡ ks ++ beyond ks (first_occurrences (x ∷ xs))
    go later (inl there) =
        ap (λ zs. fold seen zs xs) (old_one there)
        ∙ later ks
        ∙ ap (λ zs. ks ++ zs)
        (sym (dropped (λ z. not (is_among ks z)) x (without x (first_occurrences xs)) (ap not there)
        ∙ inner-filter (λ z. not (is_among ks z)) (λ w. not (eqb w x)) (same_one there) (first_occurrences xs)))
    go later (inr none) =
        ap (λ zs. fold seen zs xs) (new_one none)
        ∙ later (ks ++ x ∷ [])
        ∙ append_assoc ks (x ∷ []) (beyond (ks ++ x ∷ []) (first_occurrences xs))
        ∙ ap (λ zs. ks ++ x ∷ zs) (beyond-pushed ks x (first_occurrences xs))
        ∙ ap (λ zs. ks ++ zs) (sym (kept (λ z. not (is_among ks z)) x (without x (first_occurrences xs)) (ap not none)))

pub seen-first : (xs : List ℕ) → fold seen [] xs ≡ first_occurrences xs
seen-first xs = seen-all [] xs ∙ beyond-none (first_occurrences xs)

-- the place of what isn't there is behind all
pub place_missing : (test : ℕ → Bool) (keys : List ℕ) → ◌≡◌ {A = Option ℕ} None (position test keys) → length keys ≡ position_or_len test keys
place_missing test keys e =
    let n : ℕ = position_or_len test keys
    in let within : n ≤ length keys = prefix_len-le-length (λ k. not (test k)) keys
    in ⊎_elim
    (λ below. let found : position test keys ≡ Some n = cond-true (ltb n (length keys)) (Some n) None (lt-ltb n (length keys) below)
    in absurd (cc (e ∙ found)))
    (λ past. omega (arith, within, past))
    (cases_lt n (length keys))

same-test : (k m : ℕ) → eqb k m ≡ eqb m k
same-test k m =
    ⊎_elim (λ e. eq-eqb k m e ∙ sym (eq-eqb m k (sym e))) (λ ne. ne_eqb k m ne ∙ sym (ne_eqb m k (λ e. ne (sym e)))) (cases_eq k m)

same-places : (k : ℕ) (keys : List ℕ) → position_or_len (λ m. eqb k m) keys ≡ position_or_len (λ m. eqb m k) keys
same-places k [] = refl
same-places k (m ∷ keys) =
    ap (λ b. cond (not b) (1 + position_or_len (λ n. eqb k n) keys) 0) (same-test k m)
    ∙ ap (λ i. cond (not (eqb m k)) (1 + i) 0) (same-places k keys)

-- the same, where the test has its sides swapped
pub place_missing_by : (k : ℕ) (keys : List ℕ) → ◌≡◌ {A = Option ℕ} None (position (λ m. eqb k m) keys)
    → length keys ≡ position_or_len (λ m. eqb m k) keys
place_missing_by k keys e = place_missing (λ m. eqb k m) keys e ∙ same-places k keys
