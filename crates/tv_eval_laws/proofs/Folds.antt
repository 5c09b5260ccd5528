-- Lemmas on the greatest and the least value over individuals, for the crates above: by thresholds, and
-- along a matching.
use Rattle.std.proofs.Common.{ℕ, ◌↔◌, List, [], ◌∷◌, inl, inr, ⊎_elim, sym, subst, Contains}
use Rattle.tv_kleene.specs.declared.K3.{K3}
use Rattle.tv_kleene.specs.Kleene.{smaller_of, larger_of}
use Rattle.tv_kleene.proofs.Thresholds.{IsThreshold, Must, May, must_threshold, may_threshold, Under}
use Rattle.tv_model.proofs.Lists.{Contains-here, Contains-there, Contains-none, Contains-cases}
use Rattle.tv_model.proofs.Walks.{IsTotal}
use Rattle.tv_eval_laws.specs.Value.{greatest_of, least_of}

-- the greatest value meets a threshold exactly where some value does
pub greatest-threshold : (T : K3 → Type 0) → IsThreshold T → (g : ℕ → K3) (xs : List ℕ)
    → T (greatest_of g xs) ↔ ((u : ℕ) × Contains xs u × T (g u))
greatest-threshold T is g [] = (λ h. absurd (is.no h), λ h. absurd (Contains-none h.0 h.1))
greatest-threshold T is g (x ∷ xs) = (to (greatest-threshold T is g xs), from (greatest-threshold T is g xs))
  where
    to : T (greatest_of g xs) ↔ ((u : ℕ) × Contains xs u × T (g u))
        → T (larger_of (g x) (greatest_of g xs)) → (u : ℕ) × Contains (x ∷ xs) u × T (g u)
    to later h = ⊎_elim (λ here. (x, Contains-here x xs, here))
        (λ there. let d : (u : ℕ) × Contains xs u × T (g u) = later.0 there in (d.0, Contains-there x d.0 xs d.1, d.2))
        ((is.larger (g x) (greatest_of g xs)).0 h)

    from : T (greatest_of g xs) ↔ ((u : ℕ) × Contains xs u × T (g u))
        → (u : ℕ) × Contains (x ∷ xs) u × T (g u) → T (larger_of (g x) (greatest_of g xs))
    from later (u, at, h) =
        let At : ℕ → Type 0 = λ y. T (g y)
        in (is.larger (g x) (greatest_of g xs)).1
        (⊎_elim (λ e. inl (subst At (sym e) h)) (λ there. inr (later.1 (u, there, h))) (Contains-cases x u xs at))

-- the least value meets a threshold exactly where each value does
pub least-threshold : (T : K3 → Type 0) → IsThreshold T → (g : ℕ → K3) (xs : List ℕ)
    → T (least_of g xs) ↔ ((u : ℕ) → Contains xs u → T (g u))
least-threshold T is g [] = (λ h u at. absurd (Contains-none u at), λ h. is.yes)
least-threshold T is g (x ∷ xs) = (to (least-threshold T is g xs), from (least-threshold T is g xs))
  where
    to : T (least_of g xs) ↔ ((u : ℕ) → Contains xs u → T (g u))
        → T (smaller_of (g x) (least_of g xs)) → (u : ℕ) → Contains (x ∷ xs) u → T (g u)
    to later h u at =
        let At : ℕ → Type 0 = λ y. T (g y)
        in let both : T (g x) × T (least_of g xs) = (is.smaller (g x) (least_of g xs)).0 h
        in ⊎_elim (λ e. subst At e both.0) (λ there. later.0 both.1 u there) (Contains-cases x u xs at)

    from : T (least_of g xs) ↔ ((u : ℕ) → Contains xs u → T (g u))
        → ((u : ℕ) → Contains (x ∷ xs) u → T (g u)) → T (smaller_of (g x) (least_of g xs))
    from later h = (is.smaller (g x) (least_of g xs)).1
        (h x (Contains-here x xs), later.1 (λ u there. h u (Contains-there x u xs there)))

-- where matched individuals have values under one another, so do the greatest and the least
pub Under-greatest : (M : ℕ → ℕ → Type 0) (xs ys : List ℕ) → IsTotal M xs ys → IsTotal (λ w u. M u w) ys xs
    → (g h : ℕ → K3) → ((u w : ℕ) → M u w → Under (g u) (h w)) → Under (greatest_of g xs) (greatest_of h ys)
Under-greatest M xs ys there back g h under = (must, may)
  where
    must : Must (greatest_of h ys) → Must (greatest_of g xs)
    must m =
        let d : (w : ℕ) × Contains ys w × Must (h w) = (greatest-threshold Must must_threshold h ys).0 m
        in let b : (u : ℕ) × Contains xs u × M u d.0 = back d.0 d.1
        in (greatest-threshold Must must_threshold g xs).1 (b.0, b.1, (under b.0 d.0 b.2).0 d.2)

    may : May (greatest_of g xs) → May (greatest_of h ys)
    may m =
        let d : (u : ℕ) × Contains xs u × May (g u) = (greatest-threshold May may_threshold g xs).0 m
        in let b : (w : ℕ) × Contains ys w × M d.0 w = there d.0 d.1
        in (greatest-threshold May may_threshold h ys).1 (b.0, b.1, (under d.0 b.0 b.2).1 d.2)

pub Under-least : (M : ℕ → ℕ → Type 0) (xs ys : List ℕ) → IsTotal M xs ys → IsTotal (λ w u. M u w) ys xs
    → (g h : ℕ → K3) → ((u w : ℕ) → M u w → Under (g u) (h w)) → Under (least_of g xs) (least_of h ys)
Under-least M xs ys there back g h under = (must, may)
  where
    must : Must (least_of h ys) → Must (least_of g xs)
    must m = (least-threshold Must must_threshold g xs).1
        (λ u at. let b : (w : ℕ) × Contains ys w × M u w = there u at
        in (under u b.0 b.2).0 ((least-threshold Must must_threshold h ys).0 m b.0 b.1))

    may : May (least_of g xs) → May (least_of h ys)
    may m = (least-threshold May may_threshold h ys).1
        (λ w at. let b : (u : ℕ) × Contains xs u × M u w = back w at
        in (under b.0 w b.2).1 ((least-threshold May may_threshold g xs).0 m b.0 b.1))
