-- Lists in an order, for the crates above: those of the same elements are the same.
use Rattle.std.proofs.Common.{◌≡◌, ◌⊎◌, inl, inr, suc, List, [], ◌∷◌, refl, sym, ap, subst}
use Rattle.std.proofs.Common.{◌∙◌, arith}
use Rattle.std.specs.Prelude.{AllPairs, Contains}
use Rattle.tv_model.proofs.Lists.{Contains-cases, Contains-here, Contains-none, Contains-there}

module _ {X : Type 0} (R : X → X → Type 0) (apart : (x y : X) → R x y → R y x → ⊥) where
  -- the first comes before each later one
  ahead : (x : X) (xs : List X) → AllPairs R (x ∷ xs) → (y : X) → Contains xs y → R x y
  ahead x xs all y at = subst (R x) at.2 (all 0 (suc at.0) y (omega arith) (omega (arith, at.1)))

  behind : (x : X) (xs : List X) → AllPairs R (x ∷ xs) → AllPairs R xs
  behind x xs all = λ i j d lt within. all (suc i) (suc j) d (omega (arith, lt)) (omega (arith, within))

  -- what comes later in the one list isn't first in the other
  later_still : (x y : X) (xs ys : List X) → AllPairs R (x ∷ xs) → y ≡ x → (z : X) → Contains xs z
      → Contains (y ∷ ys) z → Contains ys z
  later_still x y xs ys all e z at both = by (Contains-cases y z ys both)
    where
      by : (y ≡ z) ⊎ Contains ys z → Contains ys z
      by (inl here) =
          let own : R x x = subst (R x) (sym here ∙ e) (ahead x xs all z at) in absurd (apart x x own own)
      by (inr there) = there

  first_same : (x y : X) (xs ys : List X) → AllPairs R (x ∷ xs) → AllPairs R (y ∷ ys) → Contains (y ∷ ys) x
      → Contains (x ∷ xs) y → x ≡ y
  first_same x y xs ys a b there here = by (Contains-cases y x ys there) (Contains-cases x y xs here)
    where
      by : (y ≡ x) ⊎ Contains ys x → (x ≡ y) ⊎ Contains xs y → x ≡ y
      by (inl e) other = sym e
      by (inr in_ys) (inl e) = e
      by (inr in_ys) (inr in_xs) = absurd (apart x y (ahead x xs a y in_xs) (ahead y ys b x in_ys))

  pub ordered_same : (xs ys : List X) → AllPairs R xs → AllPairs R ys → ((x : X) → Contains xs x → Contains ys x)
      → ((x : X) → Contains ys x → Contains xs x) → xs ≡ ys
  ordered_same [] [] a b to from = refl
  ordered_same [] (y ∷ ys) a b to from = absurd (Contains-none y (from y (Contains-here y ys)))
  ordered_same (x ∷ xs) [] a b to from = absurd (Contains-none x (to x (Contains-here x xs)))
  ordered_same (x ∷ xs) (y ∷ ys) a b to from =
      let first : x ≡ y = first_same x y xs ys a b (to x (Contains-here x xs)) (from y (Contains-here y ys)) in
      let rest : xs ≡ ys = ordered_same xs ys (behind x xs a) (behind y ys b)
      (λ z at. later_still x y xs ys a (sym first) z at (to z (Contains-there x z xs at)))
      (λ z at. later_still y x ys xs b first z at (from z (Contains-there y z ys at))) in
      ap (λ w. w ∷ xs) first ∙ ap (λ ws. y ∷ ws) rest
