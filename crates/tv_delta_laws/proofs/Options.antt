-- Lemmas on optional values and on tests of numbers.
use Rattle.std.proofs.Common.{ℕ, ◌≡◌, ◌<◌, ◌+◌, Bool, true, false, not, List, [], ◌∷◌, Option}
use Rattle.std.proofs.Common.{Some, None, ⊎_elim, refl, subst, cond, eqb, eq-eqb, arith, Contains}
use Rattle.std.specs.Prelude.{IfSome, option_map, option_and_then}
use Rattle.std.specs.List.{find, range_with_len}
use Rattle.std.proofs.lemmas.Bool.{or_left, or_right, both_ways, eqb-true, or_cases, not-true}
use Rattle.tv_model.proofs.Lists.{Contains-here, Contains-there, Contains-none, Contains-cases}
use Rattle.tv_delta_laws.specs.Putting.{has, least_slot, option_both}
use Rattle.tv_lemmas.proofs.Lists.{range_below}

pub if-mapped : {X Y : Type 0} (P : X → Type 0) (Q : Y → Type 0) (f : X → Y) (o : Option X) → IfSome o P
    → ((x : X) → P x → Q (f x)) → IfSome (option_map f o) Q
if-mapped P Q f None is keeps = tt
if-mapped P Q f (Some x) is keeps = keeps x is

pub if-bound : {X Y : Type 0} (P : X → Type 0) (Q : Y → Type 0) (f : X → Option Y) (o : Option X) → IfSome o P
    → ((x : X) → P x → IfSome (f x) Q) → IfSome (option_and_then f o) Q
if-bound P Q f None is keeps = tt
if-bound P Q f (Some x) is keeps = keeps x is

pub if-both : {X Y Z : Type 0} (P : X → Type 0) (Q : Y → Type 0) (R : Z → Type 0) (f : X → Y → Z) (o : Option X)
    (u : Option Y) → IfSome o P → IfSome u Q → ((x : X) (y : Y) → P x → Q y → R (f x y)) → IfSome (option_both f o u) R
if-both P Q R f None u is it keeps = tt
if-both P Q R f (Some x) None is it keeps = tt
if-both P Q R f (Some x) (Some y) is it keeps = keeps x y is it

-- what holds of the value that may be there holds of the one that is there
pub if-some : {X : Type 0} (P : X → Type 0) (o : Option X) (x : X) → IfSome o P → o ≡ Some x → P x
if-some P o x is e = subst (λ u. IfSome u P) e is

pub if-then : {X : Type 0} (P Q : X → Type 0) (o : Option X) → IfSome o P → ((x : X) → P x → Q x) → IfSome o Q
if-then P Q None is keeps = tt
if-then P Q (Some x) is keeps = keeps x is

-- ---- membership as a test

pub has-from : (xs : List ℕ) (x : ℕ) → Contains xs x → has xs x ≡ true
has-from [] x at = absurd (Contains-none x at)
has-from (y ∷ ys) x at =
    ⊎_elim
    (λ e. or_left (eqb y x) (has ys x) (eq-eqb y x e))
    (λ there. or_right (eqb y x) (has ys x) (has-from ys x there))
    (Contains-cases y x ys at)

pub has-not : (xs : List ℕ) (x : ℕ) → has xs x ≡ false → ¬ Contains xs x
has-not xs x e at = both_ways (has xs x) e (has-from xs x at)

pub has-contains : (xs : List ℕ) (x : ℕ) → has xs x ≡ true → Contains xs x
has-contains [] x e = absurd (both_ways false refl e)
has-contains (y ∷ ys) x e =
    ⊎_elim
    (λ here. subst (λ z. Contains (y ∷ ys) z) (eqb-true y x here) (Contains-here y ys))
    (λ there. Contains-there y x ys (has-contains ys x there))
    (or_cases (eqb y x) (has ys x) e)

-- ---- the lowest slot

pub find-passes : {X : Type 0} (test : X → Bool) (xs : List X) (x : X) → find test xs ≡ Some x
    → (test x ≡ true) × Contains xs x
find-passes test [] x e = absurd (cc e)
find-passes {X} test (y ∷ ys) x e = go (test y) refl e (λ there. find-passes test ys x there)
  where
    go : (b : Bool) → test y ≡ b → cond b (Some y) (find test ys) ≡ Some x
        → (find test ys ≡ Some x → (test x ≡ true) × Contains ys x) → (test x ≡ true) × Contains (y ∷ ys) x
    go true passes found later =
        let same : y ≡ x = cc found
        in let At : X → Type 0 = λ z. (test z ≡ true) × Contains (y ∷ ys) z
        in subst At same (passes, Contains-here y ys)
    go false fails found later =
        let rest : (test x ≡ true) × Contains ys x = later found in (rest.0, Contains-there y x ys rest.1)

-- the slot is one of the 32, and not in use
pub least-slot_free : (used : List ℕ) (s : ℕ) → least_slot used ≡ Some s → (¬ Contains used s) × (s < 32)
unfolding least_slot
least-slot_free used s e =
    let found : (not (has used s) ≡ true) × Contains (range_with_len 0 32) s
    = find-passes (λ s. not (has used s)) (range_with_len 0 32) s e
    in let below : s < 0 + 32 = range_below 0 32 s found.1
    in (has-not used s (not-true (has used s) found.0), omega (arith, below))
