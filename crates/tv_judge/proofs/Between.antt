-- What stands between two bounds.
use Rattle.std.proofs.Common.{ℕ, ◌≡◌, ◌<◌, ◌≤◌, ◌+◌, ◌⊎◌, inl, inr, zero, suc, List, [], ◌∷◌, ◌++◌, get_or}
use Rattle.std.proofs.Common.{length, refl, sym, ap, subst, arith}
use Rattle.std.proofs.lemmas.Bool.{cases_lt}
use Rattle.tv_listing.specs.declared.analysis.Item.TheVariants as item
use Rattle.tv_judge.specs.Judged.{Demand, Covering, Stepping, Saying, demand_order, StandsBefore}
use Rattle.tv_judge.proofs.Orders.{before-next, before-front, before-zero}

-- a demand stands before the bound, or P holds of it
abbrev pub IsBeforeOr : (Demand → Type 0) → List ℕ → Demand → Type 0
IsBeforeOr P b d = StandsBefore (demand_order d) b ⊎ P d

-- the place goes on behind the front with this number
abbrev GoesOn : List ℕ → ℕ → Demand → Type 0
GoesOn front k d = (rest : List ℕ) × (demand_order d ≡ front ++ k ∷ rest)

-- numbers of equal lists are equal
same-at : (x y : List ℕ) (i : ℕ) → x ≡ y → get_or x i 0 ≡ get_or y i 0
same-at x y i e = ap (λ l. get_or l i 0) e

-- ---- places that are no demand's

no-edges : (d : Demand) → demand_order d ≡ 1 ∷ [] → ⊥
no-edges (Covering (item.Initial number)) e = let h : 2 ≡ 1 = ap length e in omega (arith, h)
no-edges (Covering (item.Result edge structure result)) e = let h : 5 ≡ 1 = ap length e in omega (arith, h)
no-edges (Stepping edge structure) e = let h : 4 ≡ 1 = ap length e in omega (arith, h)
no-edges (Saying edge structure number) e = let h : 5 ≡ 1 = ap length e in omega (arith, h)

no-edge : (d : Demand) (a : ℕ) → demand_order d ≡ 1 ∷ a ∷ [] → ⊥
no-edge (Covering (item.Initial number)) a e = let h : 0 ≡ 1 = same-at (0 ∷ number ∷ []) (1 ∷ a ∷ []) 0 e
    in omega (arith, h)
no-edge (Covering (item.Result edge structure result)) a e = let h : 5 ≡ 2 = ap length e in omega (arith, h)
no-edge (Stepping edge structure) a e = let h : 4 ≡ 2 = ap length e in omega (arith, h)
no-edge (Saying edge structure number) a e = let h : 5 ≡ 2 = ap length e in omega (arith, h)

no-structure : (d : Demand) (a s : ℕ) → demand_order d ≡ 1 ∷ a ∷ s ∷ [] → ⊥
no-structure (Covering (item.Initial number)) a s e = let h : 2 ≡ 3 = ap length e in omega (arith, h)
no-structure (Covering (item.Result edge structure result)) a s e = let h : 5 ≡ 3 = ap length e
    in omega (arith, h)
no-structure (Stepping edge structure) a s e = let h : 4 ≡ 3 = ap length e in omega (arith, h)
no-structure (Saying edge structure number) a s e = let h : 5 ≡ 3 = ap length e in omega (arith, h)

no-part : (d : Demand) (a s n : ℕ) → demand_order d ≡ 1 ∷ a ∷ s ∷ (n + 1) ∷ [] → ⊥
no-part (Covering (item.Initial number)) a s n e = let h : 2 ≡ 4 = ap length e in omega (arith, h)
no-part (Covering (item.Result edge structure result)) a s n e = let h : 5 ≡ 4 = ap length e
    in omega (arith, h)
no-part (Stepping edge structure) a s n e =
    let h : 0 ≡ n + 1 = same-at (1 ∷ edge ∷ structure ∷ 0 ∷ []) (1 ∷ a ∷ s ∷ (n + 1) ∷ []) 3 e
    in omega (arith, h)
no-part (Saying edge structure number) a s n e = let h : 5 ≡ 4 = ap length e in omega (arith, h)

-- what stands before a front with 0 behind it stands before the front
opened : (front : List ℕ) (d : Demand) → (demand_order d ≡ front → ⊥)
    → StandsBefore (demand_order d) (front ++ 0 ∷ [])
    → StandsBefore (demand_order d) front
opened front d never before = by (before-zero front (demand_order d) before)
  where
    by : StandsBefore (demand_order d) front ⊎ (demand_order d ≡ front) → StandsBefore (demand_order d) front
    by (inl b) = b
    by (inr e) = absurd (never e)

-- ---- from one bound to the next

-- over the item of an initial structure
pub over-initial : (P : Demand → Type 0) (n : ℕ) → P (Covering (item.Initial n))
    → (d : Demand) → StandsBefore (demand_order d) (0 ∷ (n + 1) ∷ []) → IsBeforeOr P (0 ∷ n ∷ []) d
over-initial P n is d before = by d (before-next (0 ∷ []) (demand_order d) n before)
  where
    by : (d : Demand) → StandsBefore (demand_order d) (0 ∷ n ∷ []) ⊎ GoesOn (0 ∷ []) n d
        → IsBeforeOr P (0 ∷ n ∷ []) d
    by d (inl b) = inl b
    by (Covering (item.Initial number)) (inr (rest, e)) =
        inr (subst (λ m. P (Covering (item.Initial m)))
        (sym (same-at (0 ∷ number ∷ []) (0 ∷ n ∷ rest) 1 e)) is)
    by (Covering (item.Result edge structure result)) (inr (rest, e)) =
        let h : 1 ≡ 0 = same-at (1 ∷ edge ∷ structure ∷ 1 ∷ result ∷ []) (0 ∷ n ∷ rest) 0 e
        in absurd (omega (arith, h))
    by (Stepping edge structure) (inr (rest, e)) =
        let h : 1 ≡ 0 = same-at (1 ∷ edge ∷ structure ∷ 0 ∷ []) (0 ∷ n ∷ rest) 0 e
        in absurd (omega (arith, h))
    by (Saying edge structure number) (inr (rest, e)) =
        let h : 1 ≡ 0 = same-at (1 ∷ edge ∷ structure ∷ 2 ∷ number ∷ []) (0 ∷ n ∷ rest) 0 e
        in absurd (omega (arith, h))

-- over all initial structures from this number on
pub over-initials : (P : Demand → Type 0) (n : ℕ) → ((m : ℕ) → n ≤ m → P (Covering (item.Initial m)))
    → (d : Demand) → StandsBefore (demand_order d) (1 ∷ 0 ∷ []) → IsBeforeOr P (0 ∷ n ∷ []) d
over-initials P n past d before = by d (before-next [] (demand_order d) 0 (opened (1 ∷ []) d (no-edges d) before))
  where
    number : (m : ℕ) → (m < n) ⊎ (n ≤ m) → IsBeforeOr P (0 ∷ n ∷ []) (Covering (item.Initial m))
    number m (inl less) = inl (inr (refl, inl less))
    number m (inr more) = inr (past m more)

    by : (d : Demand) → StandsBefore (demand_order d) (0 ∷ []) ⊎ GoesOn [] 0 d → IsBeforeOr P (0 ∷ n ∷ []) d
    by d (inl b) = inl (before-front (0 ∷ []) (n ∷ []) (demand_order d) b)
    by (Covering (item.Initial m)) (inr (rest, e)) = number m (cases_lt m n)
    by (Covering (item.Result edge structure result)) (inr (rest, e)) =
        let h : 1 ≡ 0 = same-at (1 ∷ edge ∷ structure ∷ 1 ∷ result ∷ []) (0 ∷ rest) 0 e
        in absurd (omega (arith, h))
    by (Stepping edge structure) (inr (rest, e)) =
        let h : 1 ≡ 0 = same-at (1 ∷ edge ∷ structure ∷ 0 ∷ []) (0 ∷ rest) 0 e in absurd (omega (arith, h))
    by (Saying edge structure m) (inr (rest, e)) =
        let h : 1 ≡ 0 = same-at (1 ∷ edge ∷ structure ∷ 2 ∷ m ∷ []) (0 ∷ rest) 0 e
        in absurd (omega (arith, h))

-- ---- inside a step

module _ (P : Demand → Type 0) (a s : ℕ) where
  -- from the structure to its step
  pub to-step : (d : Demand) → StandsBefore (demand_order d) (1 ∷ a ∷ s ∷ 0 ∷ [])
      → IsBeforeOr P (1 ∷ a ∷ s ∷ []) d
  to-step d before = inl (opened (1 ∷ a ∷ s ∷ []) d (no-structure d a s) before)

  -- over the step
  pub over-step : P (Stepping a s) → (d : Demand) → StandsBefore (demand_order d) (1 ∷ a ∷ s ∷ 1 ∷ 0 ∷ [])
      → IsBeforeOr P (1 ∷ a ∷ s ∷ []) d
  over-step is d before =
      by d (before-next (1 ∷ a ∷ s ∷ []) (demand_order d) 0
      (opened (1 ∷ a ∷ s ∷ 1 ∷ []) d (no-part d a s 0) before))
    where
      by : (d : Demand) → StandsBefore (demand_order d) (1 ∷ a ∷ s ∷ 0 ∷ []) ⊎ GoesOn (1 ∷ a ∷ s ∷ []) 0 d
          → IsBeforeOr P (1 ∷ a ∷ s ∷ []) d
      by d (inl b) = inl (opened (1 ∷ a ∷ s ∷ []) d (no-structure d a s) b)
      by (Covering (item.Initial m)) (inr (rest, e)) =
          let h : 0 ≡ 1 = same-at (0 ∷ m ∷ []) (1 ∷ a ∷ s ∷ 0 ∷ rest) 0 e in absurd (omega (arith, h))
      by (Covering (item.Result edge structure result)) (inr (rest, e)) =
          let h : 1 ≡ 0 = same-at (1 ∷ edge ∷ structure ∷ 1 ∷ result ∷ []) (1 ∷ a ∷ s ∷ 0 ∷ rest) 3 e
          in absurd (omega (arith, h))
      by (Stepping edge structure) (inr (rest, e)) =
          inr (subst (λ f. P (Stepping f structure))
          (sym (same-at (1 ∷ edge ∷ structure ∷ 0 ∷ []) (1 ∷ a ∷ s ∷ 0 ∷ rest) 1 e))
          (subst (λ t. P (Stepping a t)) (sym
          (same-at (1 ∷ edge ∷ structure ∷ 0 ∷ []) (1 ∷ a ∷ s ∷ 0 ∷ rest) 2 e)) is))
      by (Saying edge structure m) (inr (rest, e)) =
          let h : 2 ≡ 0 = same-at (1 ∷ edge ∷ structure ∷ 2 ∷ m ∷ []) (1 ∷ a ∷ s ∷ 0 ∷ rest) 3 e
          in absurd (omega (arith, h))

  -- over a result
  pub over-result : (r : ℕ) → P (Covering (item.Result a s r))
      → (d : Demand) → StandsBefore (demand_order d) (1 ∷ a ∷ s ∷ 1 ∷ (r + 1) ∷ [])
      → IsBeforeOr P (1 ∷ a ∷ s ∷ 1 ∷ r ∷ []) d
  over-result r is d before = by d (before-next (1 ∷ a ∷ s ∷ 1 ∷ []) (demand_order d) r before)
    where
      by : (d : Demand) → StandsBefore (demand_order d) (1 ∷ a ∷ s ∷ 1 ∷ r ∷ []) ⊎ GoesOn (1 ∷ a ∷ s ∷ 1 ∷ []) r d
          → IsBeforeOr P (1 ∷ a ∷ s ∷ 1 ∷ r ∷ []) d
      by d (inl b) = inl b
      by (Covering (item.Initial m)) (inr (rest, e)) =
          let h : 0 ≡ 1 = same-at (0 ∷ m ∷ []) (1 ∷ a ∷ s ∷ 1 ∷ r ∷ rest) 0 e in absurd (omega (arith, h))
      by (Covering (item.Result edge structure result)) (inr (rest, e)) =
          inr (subst (λ f. P (Covering (item.Result f structure result)))
          (sym (same-at (1 ∷ edge ∷ structure ∷ 1 ∷ result ∷ []) (1 ∷ a ∷ s ∷ 1 ∷ r ∷ rest) 1 e))
          (subst (λ t. P (Covering (item.Result a t result)))
          (sym (same-at (1 ∷ edge ∷ structure ∷ 1 ∷ result ∷ []) (1 ∷ a ∷ s ∷ 1 ∷ r ∷ rest) 2 e))
          (subst (λ q. P (Covering (item.Result a s q)))
          (sym (same-at (1 ∷ edge ∷ structure ∷ 1 ∷ result ∷ []) (1 ∷ a ∷ s ∷ 1 ∷ r ∷ rest) 4 e)) is)))
      by (Stepping edge structure) (inr (rest, e)) =
          let h : 0 ≡ 1 = same-at (1 ∷ edge ∷ structure ∷ 0 ∷ []) (1 ∷ a ∷ s ∷ 1 ∷ r ∷ rest) 3 e
          in absurd (omega (arith, h))
      by (Saying edge structure m) (inr (rest, e)) =
          let h : 2 ≡ 1 = same-at (1 ∷ edge ∷ structure ∷ 2 ∷ m ∷ []) (1 ∷ a ∷ s ∷ 1 ∷ r ∷ rest) 3 e
          in absurd (omega (arith, h))

  -- over all results from this number on
  pub over-results : (r : ℕ) → ((q : ℕ) → r ≤ q → P (Covering (item.Result a s q)))
      → (d : Demand) → StandsBefore (demand_order d) (1 ∷ a ∷ s ∷ 2 ∷ 0 ∷ [])
      → IsBeforeOr P (1 ∷ a ∷ s ∷ 1 ∷ r ∷ []) d
  over-results r past d before =
      by d (before-next (1 ∷ a ∷ s ∷ []) (demand_order d) 1
      (opened (1 ∷ a ∷ s ∷ 2 ∷ []) d (no-part d a s 1) before))
    where
      number : (f t q : ℕ) → f ≡ a → t ≡ s → (q < r) ⊎ (r ≤ q)
          → IsBeforeOr P (1 ∷ a ∷ s ∷ 1 ∷ r ∷ []) (Covering (item.Result f t q))
      number f t q is-a is-s (inl less) = inl (inr (refl, inr (is-a, inr (is-s, inr (refl, inl less)))))
      number f t q is-a is-s (inr more) =
          inr (subst (λ g. P (Covering (item.Result g t q))) (sym is-a)
          (subst (λ u. P (Covering (item.Result a u q))) (sym is-s) (past q more)))

      by : (d : Demand) → StandsBefore (demand_order d) (1 ∷ a ∷ s ∷ 1 ∷ []) ⊎ GoesOn (1 ∷ a ∷ s ∷ []) 1 d
          → IsBeforeOr P (1 ∷ a ∷ s ∷ 1 ∷ r ∷ []) d
      by d (inl b) = inl (before-front (1 ∷ a ∷ s ∷ 1 ∷ []) (r ∷ []) (demand_order d) b)
      by (Covering (item.Initial m)) (inr (rest, e)) =
          let h : 0 ≡ 1 = same-at (0 ∷ m ∷ []) (1 ∷ a ∷ s ∷ 1 ∷ rest) 0 e in absurd (omega (arith, h))
      by (Covering (item.Result edge structure result)) (inr (rest, e)) =
          number edge structure result (same-at (1 ∷ edge ∷ structure ∷ 1 ∷ result ∷ [])
          (1 ∷ a ∷ s ∷ 1 ∷ rest) 1 e)
          (same-at (1 ∷ edge ∷ structure ∷ 1 ∷ result ∷ []) (1 ∷ a ∷ s ∷ 1 ∷ rest) 2 e) (cases_lt result r)
      by (Stepping edge structure) (inr (rest, e)) =
          let h : 0 ≡ 1 = same-at (1 ∷ edge ∷ structure ∷ 0 ∷ []) (1 ∷ a ∷ s ∷ 1 ∷ rest) 3 e
          in absurd (omega (arith, h))
      by (Saying edge structure m) (inr (rest, e)) =
          let h : 2 ≡ 1 = same-at (1 ∷ edge ∷ structure ∷ 2 ∷ m ∷ []) (1 ∷ a ∷ s ∷ 1 ∷ rest) 3 e
          in absurd (omega (arith, h))

  -- over the messages below this number
  pub over-messages : (n : ℕ) → ((m : ℕ) → m < n → P (Saying a s m))
      → (d : Demand) → StandsBefore (demand_order d) (1 ∷ a ∷ s ∷ 2 ∷ n ∷ [])
      → IsBeforeOr P (1 ∷ a ∷ s ∷ 2 ∷ 0 ∷ []) d
  over-messages zero said d before = inl before
  over-messages (suc n) said d before =
      by (over-messages n (λ m less. said m (omega (arith, less)))) d
      (before-next (1 ∷ a ∷ s ∷ 2 ∷ []) (demand_order d) n
      (subst (λ k. StandsBefore (demand_order d) (1 ∷ a ∷ s ∷ 2 ∷ k ∷ [])) (omega arith) before))
    where
      by : ((d : Demand) → StandsBefore (demand_order d) (1 ∷ a ∷ s ∷ 2 ∷ n ∷ [])
          → IsBeforeOr P (1 ∷ a ∷ s ∷ 2 ∷ 0 ∷ []) d)
          → (d : Demand) → StandsBefore (demand_order d) (1 ∷ a ∷ s ∷ 2 ∷ n ∷ [])
          ⊎ GoesOn (1 ∷ a ∷ s ∷ 2 ∷ []) n d
          → IsBeforeOr P (1 ∷ a ∷ s ∷ 2 ∷ 0 ∷ []) d
      by on d (inl b) = on d b
      by on (Covering (item.Initial m)) (inr (rest, e)) =
          let h : 0 ≡ 1 = same-at (0 ∷ m ∷ []) (1 ∷ a ∷ s ∷ 2 ∷ n ∷ rest) 0 e in absurd (omega (arith, h))
      by on (Covering (item.Result edge structure result)) (inr (rest, e)) =
          let h : 1 ≡ 2 = same-at (1 ∷ edge ∷ structure ∷ 1 ∷ result ∷ []) (1 ∷ a ∷ s ∷ 2 ∷ n ∷ rest) 3 e
          in absurd (omega (arith, h))
      by on (Stepping edge structure) (inr (rest, e)) =
          let h : 0 ≡ 2 = same-at (1 ∷ edge ∷ structure ∷ 0 ∷ []) (1 ∷ a ∷ s ∷ 2 ∷ n ∷ rest) 3 e
          in absurd (omega (arith, h))
      by on (Saying edge structure m) (inr (rest, e)) =
          inr (subst (λ f. P (Saying f structure m))
          (sym (same-at (1 ∷ edge ∷ structure ∷ 2 ∷ m ∷ []) (1 ∷ a ∷ s ∷ 2 ∷ n ∷ rest) 1 e))
          (subst (λ t. P (Saying a t m)) (sym
          (same-at (1 ∷ edge ∷ structure ∷ 2 ∷ m ∷ []) (1 ∷ a ∷ s ∷ 2 ∷ n ∷ rest) 2 e))
          (said m (let h : m ≡ n = same-at (1 ∷ edge ∷ structure ∷ 2 ∷ m ∷ [])
          (1 ∷ a ∷ s ∷ 2 ∷ n ∷ rest) 4 e in omega (arith, h)))))

  -- over all messages
  pub over-all-messages : ((m : ℕ) → P (Saying a s m))
      → (d : Demand) → StandsBefore (demand_order d) (1 ∷ a ∷ (s + 1) ∷ [])
      → IsBeforeOr P (1 ∷ a ∷ s ∷ 2 ∷ 0 ∷ []) d
  over-all-messages said d before = by d (before-next (1 ∷ a ∷ []) (demand_order d) s before)
    where
      by : (d : Demand) → StandsBefore (demand_order d) (1 ∷ a ∷ s ∷ []) ⊎ GoesOn (1 ∷ a ∷ []) s d
          → IsBeforeOr P (1 ∷ a ∷ s ∷ 2 ∷ 0 ∷ []) d
      by d (inl b) = inl (before-front (1 ∷ a ∷ s ∷ []) (2 ∷ 0 ∷ []) (demand_order d) b)
      by (Covering (item.Initial m)) (inr (rest, e)) =
          let h : 0 ≡ 1 = same-at (0 ∷ m ∷ []) (1 ∷ a ∷ s ∷ rest) 0 e in absurd (omega (arith, h))
      by (Covering (item.Result edge structure result)) (inr (rest, e)) =
          inl (inr (
            refl,
            inr (
              same-at (1 ∷ edge ∷ structure ∷ 1 ∷ result ∷ []) (1 ∷ a ∷ s ∷ rest) 1 e,
              inr (
                same-at (1 ∷ edge ∷ structure ∷ 1 ∷ result ∷ []) (1 ∷ a ∷ s ∷ rest) 2 e,
                inl
                    (omega arith),
              ),
            ),
          ))
      by (Stepping edge structure) (inr (rest, e)) =
          inl (inr (
            refl,
            inr (
              same-at (1 ∷ edge ∷ structure ∷ 0 ∷ []) (1 ∷ a ∷ s ∷ rest) 1 e,
              inr (same-at (1 ∷ edge ∷ structure ∷ 0 ∷ []) (1 ∷ a ∷ s ∷ rest) 2 e, inl (omega arith)),
            ),
          ))
      by (Saying edge structure m) (inr (rest, e)) =
          inr (subst (λ f. P (Saying f structure m))
          (sym (same-at (1 ∷ edge ∷ structure ∷ 2 ∷ m ∷ []) (1 ∷ a ∷ s ∷ rest) 1 e))
          (subst (λ t. P (Saying a t m)) (sym
          (same-at (1 ∷ edge ∷ structure ∷ 2 ∷ m ∷ []) (1 ∷ a ∷ s ∷ rest) 2 e)) (said m)))

-- ---- over edges

-- P holds of all demands of the listed structure of this place
pub record HoldsAt (P : Demand → Type 0) (a s : ℕ) : Type 0 where
  pub step : P (Stepping a s)
  pub results : (r : ℕ) → P (Covering (item.Result a s r))
  pub messages : (m : ℕ) → P (Saying a s m)

-- to the first structure of an edge
pub to-structures : (P : Demand → Type 0) (a : ℕ) (d : Demand) → StandsBefore (demand_order d) (1 ∷ a ∷ 0 ∷ [])
    → IsBeforeOr P (1 ∷ a ∷ []) d
to-structures P a d before = inl (opened (1 ∷ a ∷ []) d (no-edge d a) before)

-- over all structures from this place on
pub over-structures : (P : Demand → Type 0) (a s : ℕ) → ((t : ℕ) → s ≤ t → HoldsAt P a t)
    → (d : Demand) → StandsBefore (demand_order d) (1 ∷ (a + 1) ∷ []) → IsBeforeOr P (1 ∷ a ∷ s ∷ []) d
over-structures P a s past d before = by d (before-next (1 ∷ []) (demand_order d) a before)
  where
    chosen : (d : Demand) (t : ℕ) → (t < s → StandsBefore (demand_order d) (1 ∷ a ∷ s ∷ [])) → (s ≤ t → P d)
        → (t < s) ⊎ (s ≤ t) → IsBeforeOr P (1 ∷ a ∷ s ∷ []) d
    chosen d t before holds (inl less) = inl (before less)
    chosen d t before holds (inr more) = inr (holds more)

    by : (d : Demand) → StandsBefore (demand_order d) (1 ∷ a ∷ []) ⊎ GoesOn (1 ∷ []) a d
        → IsBeforeOr P (1 ∷ a ∷ s ∷ []) d
    by d (inl b) = inl (before-front (1 ∷ a ∷ []) (s ∷ []) (demand_order d) b)
    by (Covering (item.Initial m)) (inr (rest, e)) =
        let h : 0 ≡ 1 = same-at (0 ∷ m ∷ []) (1 ∷ a ∷ rest) 0 e in absurd (omega (arith, h))
    by (Covering (item.Result f t q)) (inr (rest, e)) =
        let is-a : f ≡ a = same-at (1 ∷ f ∷ t ∷ 1 ∷ q ∷ []) (1 ∷ a ∷ rest) 1 e
        in chosen (Covering (item.Result f t q)) t (λ less. inr (refl, inr (is-a, inl less)))
        (λ more. subst (λ g. P (Covering (item.Result g t q))) (sym is-a) ((past t more).results q))
        (cases_lt t s)
    by (Stepping f t) (inr (rest, e)) =
        let is-a : f ≡ a = same-at (1 ∷ f ∷ t ∷ 0 ∷ []) (1 ∷ a ∷ rest) 1 e
        in chosen (Stepping f t) t (λ less. inr (refl, inr (is-a, inl less)))
        (λ more. subst (λ g. P (Stepping g t)) (sym is-a) (past t more).step) (cases_lt t s)
    by (Saying f t m) (inr (rest, e)) =
        let is-a : f ≡ a = same-at (1 ∷ f ∷ t ∷ 2 ∷ m ∷ []) (1 ∷ a ∷ rest) 1 e
        in chosen (Saying f t m) t (λ less. inr (refl, inr (is-a, inl less)))
        (λ more. subst (λ g. P (Saying g t m)) (sym is-a) ((past t more).messages m)) (cases_lt t s)

-- over all edges from this number on
pub over-edges : (P : Demand → Type 0) (a : ℕ) → ((f : ℕ) → a ≤ f → (t : ℕ) → HoldsAt P f t)
    → (d : Demand) → StandsBefore (demand_order d) (2 ∷ []) → IsBeforeOr P (1 ∷ a ∷ []) d
over-edges P a past d before = by d (before-next [] (demand_order d) 1 before)
  where
    chosen : (d : Demand) (f : ℕ) → (f < a → StandsBefore (demand_order d) (1 ∷ a ∷ [])) → (a ≤ f → P d)
        → (f < a) ⊎ (a ≤ f) → IsBeforeOr P (1 ∷ a ∷ []) d
    chosen d f before holds (inl less) = inl (before less)
    chosen d f before holds (inr more) = inr (holds more)

    by : (d : Demand) → StandsBefore (demand_order d) (1 ∷ []) ⊎ GoesOn [] 1 d → IsBeforeOr P (1 ∷ a ∷ []) d
    by d (inl b) = inl (before-front (1 ∷ []) (a ∷ []) (demand_order d) b)
    by (Covering (item.Initial m)) (inr (rest, e)) =
        let h : 0 ≡ 1 = same-at (0 ∷ m ∷ []) (1 ∷ rest) 0 e in absurd (omega (arith, h))
    by (Covering (item.Result f t q)) (inr (rest, e)) =
        chosen (Covering (item.Result f t q)) f (λ less. inr (refl, inl less))
        (λ more. (past f more t).results q) (cases_lt f a)
    by (Stepping f t) (inr (rest, e)) =
        chosen (Stepping f t) f (λ less. inr (refl, inl less)) (λ more. (past f more t).step) (cases_lt f a)
    by (Saying f t m) (inr (rest, e)) =
        chosen (Saying f t m) f (λ less. inr (refl, inl less)) (λ more. (past f more t).messages m)
        (cases_lt f a)
