-- Lemmas on decided facts, for the crates above: the connectives keep them decided, and so do "there is"
-- and "for all" over a list.
use Rattle.std.proofs.Common.{ℕ, ◌≡◌, ◌⊎◌, ◌↔◌, List, [], ◌∷◌, Option, Some, None, inl, inr, ⊎_elim, sym, ap}
use Rattle.std.proofs.Common.{subst, Contains}
use Rattle.std.proofs.lemmas.Bool.{cases_eq}
use Rattle.tv_model.proofs.Lists.{Contains-here, Contains-there, Contains-cases, Contains-none}

-- a fact holds or it doesn't
abbrev pub IsDecided : Type 0 → Type 0
IsDecided fact = fact ⊎ (¬ fact)

-- ---- connectives

pub same-decided : (P Q : Type 0) → (P → Q) → (Q → P) → IsDecided P → IsDecided Q
same-decided P Q there back p = ⊎_elim (λ t. inl (there t)) (λ n. inr (λ t. n (back t))) p

pub not-decided : (P : Type 0) → IsDecided P → IsDecided (¬ P)
not-decided P p = ⊎_elim (λ t. inr (λ n. n t)) (λ n. inl n) p

pub and-decided : (P Q : Type 0) → IsDecided P → IsDecided Q → IsDecided (P × Q)
and-decided P Q (inl p) (inl q) = inl (p, q)
and-decided P Q (inl p) (inr n) = inr (λ t. n t.1)
and-decided P Q (inr n) q = inr (λ t. n t.0)

pub or-decided : (P Q : Type 0) → IsDecided P → IsDecided Q → IsDecided (P ⊎ Q)
or-decided P Q (inl p) q = inl (inl p)
or-decided P Q (inr n) (inl q) = inl (inr q)
or-decided P Q (inr n) (inr m) = inr (λ t. ⊎_elim n m t)

pub implies-decided : (P Q : Type 0) → IsDecided P → IsDecided Q → IsDecided (P → Q)
implies-decided P Q p (inl q) = inl (λ t. q)
implies-decided P Q (inl p) (inr n) = inr (λ t. n (t p))
implies-decided P Q (inr m) (inr n) = inl (λ t. absurd (m t))

pub iff-decided : (P Q : Type 0) → IsDecided P → IsDecided Q → IsDecided (P ↔ Q)
iff-decided P Q p q = and-decided (P → Q) (Q → P) (implies-decided P Q p q) (implies-decided Q P q p)

-- ---- lists

pub exists-decided : (P : ℕ → Type 0) → ((u : ℕ) → IsDecided (P u)) → (xs : List ℕ)
    → IsDecided ((u : ℕ) × Contains xs u × P u)
exists-decided P each [] = inr (λ t. Contains-none t.0 t.1)
exists-decided P each (x ∷ xs) = go (each x) (exists-decided P each xs)
  where
    go : IsDecided (P x) → IsDecided ((u : ℕ) × Contains xs u × P u) → IsDecided ((u : ℕ) × Contains (x ∷ xs) u × P u)
    go (inl p) later = inl (x, Contains-here x xs, p)
    go (inr n) (inl later) = inl (later.0, Contains-there x later.0 xs later.1, later.2)
    go (inr n) (inr none) =
        inr (λ t. ⊎_elim (λ e. n (subst P (sym e) t.2)) (λ there. none (t.0, there, t.2)) (Contains-cases x t.0 xs t.1))

pub forall-decided : (P : ℕ → Type 0) → ((u : ℕ) → IsDecided (P u)) → (xs : List ℕ)
    → IsDecided ((u : ℕ) → Contains xs u → P u)
forall-decided P each [] = inl (λ u at. absurd (Contains-none u at))
forall-decided P each (x ∷ xs) = go (each x) (forall-decided P each xs)
  where
    go : IsDecided (P x) → IsDecided ((u : ℕ) → Contains xs u → P u) → IsDecided ((u : ℕ) → Contains (x ∷ xs) u → P u)
    go (inr n) later = inr (λ t. n (t x (Contains-here x xs)))
    go (inl p) (inr none) = inr (λ t. none (λ u at. t u (Contains-there x u xs at)))
    go (inl p) (inl later) =
        inl (λ u at. ⊎_elim (λ e. subst P e p) (λ there. later u there) (Contains-cases x u xs at))

pub equal-decided : (xs ys : List ℕ) → IsDecided (xs ≡ ys)
equal-decided [] [] = inl (cc)
equal-decided [] (y ∷ ys) = inr (λ e. cc e)
equal-decided (x ∷ xs) [] = inr (λ e. cc e)
equal-decided (x ∷ xs) (y ∷ ys) = go (cases_eq x y) (equal-decided xs ys)
  where
    go : IsDecided (x ≡ y) → IsDecided (xs ≡ ys) → IsDecided (x ∷ xs ≡ y ∷ ys)
    go (inl e) (inl f) = inl (cc (e, f))
    go (inl e) (inr n) = inr (λ f. n (cc f))
    go (inr n) f = inr (λ e. n (cc e))

-- membership is decided where equality is
pub Contains-decided_by : {X : Type 0} → ((x y : X) → IsDecided (x ≡ y)) → (xs : List X) (u : X)
    → IsDecided (Contains xs u)
Contains-decided_by same [] u = inr (Contains-none u)
Contains-decided_by {X} same (x ∷ xs) u = go (same x u) (Contains-decided_by same xs u)
  where
    go : IsDecided (x ≡ u) → IsDecided (Contains xs u) → IsDecided (Contains (x ∷ xs) u)
    go (inl e) later = let P : X → Type 0 = λ z. Contains (x ∷ xs) z in inl (subst P e (Contains-here x xs))
    go (inr n) (inl there) = inl (Contains-there x u xs there)
    go (inr n) (inr none) = inr (λ t. ⊎_elim n none (Contains-cases x u xs t))

pub Contains-decided : (xs : List ℕ) (u : ℕ) → IsDecided (Contains xs u)
Contains-decided xs u = Contains-decided_by cases_eq xs u

pub tuple-decided : (xs : List (List ℕ)) (us : List ℕ) → IsDecided (Contains xs us)
tuple-decided xs us = Contains-decided_by equal-decided xs us

pub mark-decided : (fresh : Option ℕ) (u : ℕ) → IsDecided (fresh ≡ Some u)
mark-decided None u = inr (λ e. cc e)
mark-decided (Some w) u = ⊎_elim (λ e. inl (ap (λ x. Some x) e)) (λ n. inr (λ e. n (cc e))) (cases_eq w u)
