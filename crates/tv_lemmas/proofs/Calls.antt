-- What the calls of an iterator have given, and what is left.
use Rattle.std.proofs.Common.{◌≡◌, List, [], ◌∷◌, ◌++◌, Option, Some, sym, ap, subst, ◌∙◌}
use Rattle.std.specs.Iterator.{Yields}

module _ {S A : Type 0} (steps : S → Option A → S → Type 0) (left : S → List A)
    (one : (s t : S) (x : A) → steps s (Some x) t → left s ≡ x ∷ left t) where
  yielded_left : (s t : S) (xs : List A) → Yields steps s xs t → left s ≡ xs ++ left t
  yielded_left s t [] y = ap left y
  yielded_left s t (x ∷ xs) y = one s y.0 x y.1 ∙ ap (λ zs. x ∷ zs) (yielded_left y.0 t xs y.2)

  pub yielded_split : (all : List A) (s t u : S) (xs : List A) (x : A) (r : Option A) → left s ≡ all
      → Yields steps s xs t → r ≡ Some x → steps t r u → all ≡ xs ++ x ∷ left u
  yielded_split all s t u xs x r start y is step =
      sym start ∙ yielded_left s t xs y ∙ ap (λ zs. xs ++ zs) (one t u x (subst (λ o. steps t o u) is step))
