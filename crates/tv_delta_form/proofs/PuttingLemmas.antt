-- Lemmas on putting arguments in.
use Rattle.std.proofs.Common.{ℕ, ◌≡◌, ◌∙◌, ◌<◌, ◌+◌, Bool, true, false, not, zero, suc, List, ◌∷◌}
use Rattle.std.proofs.Common.{◌++◌, Option, Some, None, refl, sym, ap, cond, eqb}
use Rattle.std.proofs.Common.{arith}
use Rattle.std.specs.Prelude.{◌||◌}
use Rattle.std.specs.List.{find, range_with_len}
use Rattle.std.proofs.lemmas.Bool.{cond-true, cond-false}
use Rattle.std.proofs.lemmas.List.Folds.{list_any-append}
use Rattle.tv_model.specs.declared.formula.Var.{Var}
use Rattle.tv_delta_laws.specs.Putting.{has, least_slot, Reserved}
use Rattle.tv_delta_form.specs.Views.{slot_among, reserved_besides, besides_list}

-- membership in two lists, one behind the other
pub has_append : (xs ys : List ℕ) (x : ℕ) → has (xs ++ ys) x ≡ (has xs x || has ys x)
has_append xs ys x = list_any-append (λ y. eqb y x) xs ys

-- the slots that are gone through are those of the definition
pub slots-from : (used : List ℕ) (a n : ℕ) → find (λ s. not (has used s)) (range_with_len a n) ≡ slot_among used a n
slots-from used a zero = refl
slots-from used a (suc n) = go (has used a) refl (slots-from used (a + 1) n)
  where
    go : (b : Bool) → has used a ≡ b
        → find (λ s. not (has used s)) (range_with_len (a + 1) n) ≡ slot_among used (a + 1) n
        → cond (not b) (Some a) (find (λ s. not (has used s)) (range_with_len (a + 1) n))
        ≡ cond b (slot_among used (a + 1) n) (Some a)
    go true e later = later
    go false e later = refl

pub least_among : (used : List ℕ) → slot_among used 0 32 ≡ least_slot used
unfolding least_slot
least_among used = sym (slots-from used 0 32)

pub slot_step : (used : List ℕ) (s n m : ℕ) → n ≡ m + 1 → has used s ≡ true → slot_among used s n ≡ slot_among used (s + 1) m
slot_step used s zero m e full = absurd (omega (arith, e))
slot_step used s (suc n) m e full =
    let same : n ≡ m = omega (arith, e)
    in cond-true (has used s) (slot_among used (s + 1) n) (Some s) full ∙ ap (λ k. slot_among used (s + 1) k) same

pub slot_here : (used : List ℕ) (s n : ℕ) → 0 < n → has used s ≡ false → slot_among used s n ≡ Some s
slot_here used s zero some free = absurd (omega (arith, some))
slot_here used s (suc n) some free = cond-false (has used s) (slot_among used (s + 1) n) (Some s) free

pub slot_none : (used : List ℕ) (s n : ℕ) → n ≡ 0 → slot_among used s n ≡ None
slot_none used s zero e = refl
slot_none used s (suc n) e = absurd (omega (arith, e))

-- slots depend only on which numbers are in use
slot-same : (xs ys : List ℕ) → ((x : ℕ) → has xs x ≡ has ys x) → (s n : ℕ) → slot_among xs s n ≡ slot_among ys s n
slot-same xs ys same s zero = refl
slot-same xs ys same s (suc n) =
    ap (λ b. cond b (slot_among xs (s + 1) n) (Some s)) (same s)
    ∙ ap (λ o. cond (has ys s) o (Some s)) (slot-same xs ys same (s + 1) n)

or-swap : (a b c : Bool) → (a || (b || c)) ≡ (b || (a || c))
or-swap true true c = refl
or-swap true false c = refl
or-swap false true c = refl
or-swap false false c = refl

one-moved : (xs ys : List ℕ) (w x : ℕ) → has (xs ++ (w ∷ ys)) x ≡ has (w ∷ (xs ++ ys)) x
one-moved xs ys w x =
    has_append xs (w ∷ ys) x ∙ or-swap (has xs x) (eqb w x) (has ys x)
    ∙ ap (λ b. eqb w x || b) (sym (has_append xs ys x))

-- the slots of an own variable of an update
pub own_slots : (r : Reserved) (besides : Option Var) (vars : List ℕ)
    → slot_among ((reserved_besides besides r).picks ++ ((reserved_besides besides r).own ++ vars)) 0 32
    ≡ least_slot (besides_list besides ++ (r.picks ++ (r.own ++ vars)))
own_slots r None vars = least_among (r.picks ++ (r.own ++ vars))
own_slots r (Some w) vars =
    slot-same (r.picks ++ (w.0 ∷ (r.own ++ vars))) (w.0 ∷ (r.picks ++ (r.own ++ vars)))
    (one-moved r.picks (r.own ++ vars) w.0) 0 32
    ∙ least_among (w.0 ∷ (r.picks ++ (r.own ++ vars)))
