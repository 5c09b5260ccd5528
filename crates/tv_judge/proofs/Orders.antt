-- The lexicographic order of lists of numbers.
use Rattle.std.proofs.Common.{ℕ, ◌≡◌, ◌<◌, ◌≤◌, ◌+◌, ◌⊎◌, inl, inr, List, [], ◌∷◌, ◌++◌, refl, ap, ◌∙◌, arith}
use Rattle.std.proofs.lemmas.Bool.{cases_lt}
use Rattle.tv_judge.specs.Judged.{StandsBefore}

pub before-trans : (x y z : List ℕ) → StandsBefore x y → StandsBefore y z → StandsBefore x z
before-trans x y [] p q = absurd q
before-trans x [] (c ∷ z) p q = absurd p
before-trans [] (b ∷ y) (c ∷ z) p q = tt
before-trans (a ∷ x) (b ∷ y) (c ∷ z) p q = by (before-trans x y z) p q
  where
    by : (StandsBefore x y → StandsBefore y z → StandsBefore x z) → (a < b) ⊎ ((a ≡ b) × StandsBefore x y)
        → (b < c) ⊎ ((b ≡ c) × StandsBefore y z)
        → (a < c) ⊎ ((a ≡ c) × StandsBefore x z)
    by on (inl l) (inl m) = inl (omega (arith, l, m))
    by on (inl l) (inr (e, m)) = inl (omega (arith, l, e))
    by on (inr (e, l)) (inl m) = inl (omega (arith, e, m))
    by on (inr (e, l)) (inr (f, m)) = inr (e ∙ f, on l m)

-- what stands before the next number stands before this one, or goes on behind this one
pub before-next : (front x : List ℕ) (k : ℕ) → StandsBefore x (front ++ (k + 1) ∷ [])
    → StandsBefore x (front ++ k ∷ []) ⊎ ((rest : List ℕ) × (x ≡ front ++ k ∷ rest))
before-next [] [] k p = inl tt
before-next [] (a ∷ x) k p = by p
  where
    same : (a < k) ⊎ (k ≤ a) → a < k + 1
        → ((a < k) ⊎ ((a ≡ k) × StandsBefore x [])) ⊎ ((rest : List ℕ) × (a ∷ x ≡ k ∷ rest))
    same (inl l) below = inl (inl l)
    same (inr m) below = let e : a ≡ k = omega (arith, m, below) in inr (x, ap (λ n. n ∷ x) e)

    by : (a < k + 1) ⊎ ((a ≡ k + 1) × StandsBefore x [])
        → ((a < k) ⊎ ((a ≡ k) × StandsBefore x [])) ⊎ ((rest : List ℕ) × (a ∷ x ≡ k ∷ rest))
    by (inl below) = same (cases_lt a k) below
    by (inr (e, never)) = absurd never
before-next (f ∷ front) [] k p = inl tt
before-next (f ∷ front) (a ∷ x) k p = by (before-next front x k) p
  where
    rest-of : StandsBefore x (front ++ k ∷ []) ⊎ ((rest : List ℕ) × (x ≡ front ++ k ∷ rest)) → a ≡ f
        → ((a < f) ⊎ ((a ≡ f) × StandsBefore x (front ++ k ∷ [])))
        ⊎ ((rest : List ℕ) × (a ∷ x ≡ f ∷ (front ++ k ∷ rest)))
    rest-of (inl before) e = inl (inr (e, before))
    rest-of (inr (rest, is)) e = inr (rest, ap (λ n. n ∷ x) e ∙ ap (λ y. f ∷ y) is)

    by : (StandsBefore x (front ++ (k + 1) ∷ [])
        → StandsBefore x (front ++ k ∷ []) ⊎ ((rest : List ℕ) × (x ≡ front ++ k ∷ rest)))
        → (a < f) ⊎ ((a ≡ f) × StandsBefore x (front ++ (k + 1) ∷ []))
        → ((a < f) ⊎ ((a ≡ f) × StandsBefore x (front ++ k ∷ [])))
        ⊎ ((rest : List ℕ) × (a ∷ x ≡ f ∷ (front ++ k ∷ rest)))
    by on (inl l) = inl (inl l)
    by on (inr (e, before)) = rest-of (on before) e

-- what stands before a front stands before all that goes on behind it
pub before-front : (front rest x : List ℕ) → StandsBefore x front → StandsBefore x (front ++ rest)
before-front [] rest x p = absurd p
before-front (f ∷ front) rest [] p = tt
before-front (f ∷ front) rest (a ∷ x) p = by (before-front front rest x) p
  where
    by : (StandsBefore x front → StandsBefore x (front ++ rest))
        → (a < f) ⊎ ((a ≡ f) × StandsBefore x front) → (a < f) ⊎ ((a ≡ f) × StandsBefore x (front ++ rest))
    by on (inl l) = inl l
    by on (inr (e, before)) = inr (e, on before)

-- what stands before a front with 0 behind it stands before the front, or is it
pub before-zero : (front x : List ℕ) → StandsBefore x (front ++ 0 ∷ []) → StandsBefore x front ⊎ (x ≡ front)
before-zero [] [] p = inr refl
before-zero [] (a ∷ x) p = by p
  where
    by : (a < 0) ⊎ ((a ≡ 0) × StandsBefore x []) → StandsBefore (a ∷ x) [] ⊎ (a ∷ x ≡ [])
    by (inl l) = let clash : ⊥ = omega (arith, l) in absurd clash
    by (inr (e, never)) = absurd never
before-zero (f ∷ front) [] p = inl tt
before-zero (f ∷ front) (a ∷ x) p = by (before-zero front x) p
  where
    rest-of : StandsBefore x front ⊎ (x ≡ front) → a ≡ f
        → ((a < f) ⊎ ((a ≡ f) × StandsBefore x front)) ⊎ (a ∷ x ≡ f ∷ front)
    rest-of (inl before) e = inl (inr (e, before))
    rest-of (inr is) e = inr (ap (λ n. n ∷ x) e ∙ ap (λ y. f ∷ y) is)

    by : (StandsBefore x (front ++ 0 ∷ []) → StandsBefore x front ⊎ (x ≡ front))
        → (a < f) ⊎ ((a ≡ f) × StandsBefore x (front ++ 0 ∷ []))
        → ((a < f) ⊎ ((a ≡ f) × StandsBefore x front)) ⊎ (a ∷ x ≡ f ∷ front)
    by on (inl l) = inl (inl l)
    by on (inr (e, before)) = rest-of (on before) e
