-- What the greatest and the least value say of all values.
use Rattle.std.proofs.Common.{ℕ, ◌≡◌, ◌≢◌, ◌⊎◌, ◌↔◌, zero, suc, List, [], ◌∷◌, get_or, All, Any, refl, sym}
use Rattle.std.proofs.Common.{ap, ◌∙◌, inl, inr, ⊎_elim, arith}
use Rattle.std.proofs.lemmas.List.{get_or_default}
use Rattle.tv_kleene.proofs.Lattice.{smaller-no, both-yes}
use Rattle.tv_kleene.specs.declared.K3.{K3}
use Rattle.tv_kleene.specs.declared.K3.TheVariants.{No, Half, Yes}
use Rattle.tv_kleene.specs.Kleene.{smaller_of, larger_of}
use Rattle.tv_row.specs.Bits.{greatest_in, least_in}
use Rattle.tv_row.proofs.WordMore.{greatest_yes}

-- ---- of two values

larger_yes : (x y : K3) → larger_of x y ≡ Yes → (x ≡ Yes) ⊎ (y ≡ Yes)
larger_yes No y e = inr e
larger_yes Half No e = cc
larger_yes Half Half e = cc
larger_yes Half Yes e = inr e
larger_yes Yes y e = inl refl

larger_no : (x y : K3) → larger_of x y ≡ No → (x ≡ No) × (y ≡ No)
larger_no No y e = (refl, e)
larger_no Half No e = cc
larger_no Half Half e = cc
larger_no Half Yes e = cc
larger_no Yes y e = cc

smaller_no : (x y : K3) → smaller_of x y ≡ No → (x ≡ No) ⊎ (y ≡ No)
smaller_no No y e = inl refl
smaller_no Half No e = inr refl
smaller_no Half Half e = cc
smaller_no Half Yes e = cc
smaller_no Yes y e = inr e

-- ---- of a list

-- some value is Yes
some_yes : (xs : List K3) → greatest_in xs ≡ Yes → Any (λ x. x ≡ Yes) xs
some_yes [] e = cc
some_yes (x ∷ xs) e =
    ⊎_elim
    (λ here. (0, x, omega arith, refl, here))
    (λ later.
    let h : Any (λ x. x ≡ Yes) xs = some_yes xs later
    in (suc h.0, h.1, omega (arith, h.2), h.3, h.4))
    (larger_yes x (greatest_in xs) e)

pub any_yes : (xs : List K3) → (greatest_in xs ≡ Yes) ↔ Any (λ x. x ≡ Yes) xs
any_yes xs = (some_yes xs, λ h. greatest_yes xs h.0 (get_or_default xs h.0 No h.1 h.2 ∙ h.3 ∙ h.4))

-- each value is No
none_at : (xs : List K3) → greatest_in xs ≡ No → (i : ℕ) → get_or xs i No ≡ No
none_at [] e i = refl
none_at (x ∷ xs) e zero = (larger_no x (greatest_in xs) e).0
none_at (x ∷ xs) e (suc i) = none_at xs (larger_no x (greatest_in xs) e).1 i

some_possible : (xs : List K3) → greatest_in xs ≢ No → Any (λ x. x ≢ No) xs
some_possible [] n = absurd (n refl)
some_possible (No ∷ xs) n =
    let h : Any (λ x. x ≢ No) xs = some_possible xs n
    in (suc h.0, h.1, omega (arith, h.2), h.3, h.4)
some_possible (Half ∷ xs) n = (0, Half, omega arith, refl, λ e. cc)
some_possible (Yes ∷ xs) n = (0, Yes, omega arith, refl, λ e. cc)

pub any_possible : (xs : List K3) → (greatest_in xs ≢ No) ↔ Any (λ x. x ≢ No) xs
any_possible xs = (
  some_possible xs,
  λ h e. h.4 (sym h.3 ∙ sym (get_or_default xs h.0 No h.1 h.2) ∙ none_at xs e h.0),
)

each_yes : (xs : List K3) → least_in xs ≡ Yes → All (λ x. x ≡ Yes) xs
each_yes [] e i d lt = absurd (omega arith)
each_yes (x ∷ xs) e zero d lt = (both-yes x (least_in xs) e).0
each_yes (x ∷ xs) e (suc i) d lt = each_yes xs (both-yes x (least_in xs) e).1 i d (omega arith)

least_yes : (xs : List K3) → All (λ x. x ≡ Yes) xs → least_in xs ≡ Yes
least_yes [] all = refl
least_yes (x ∷ xs) all = rw (all 0 No (omega arith), least_yes xs (λ i d lt. all (suc i) d (omega arith))) refl

pub all_yes : (xs : List K3) → (least_in xs ≡ Yes) ↔ All (λ x. x ≡ Yes) xs
all_yes xs = (each_yes xs, least_yes xs)

each_possible : (xs : List K3) → least_in xs ≢ No → All (λ x. x ≢ No) xs
each_possible [] n i d lt = absurd (omega arith)
each_possible (x ∷ xs) n zero d lt = λ e. n (rw e refl)
each_possible (x ∷ xs) n (suc i) d lt =
    each_possible xs (λ e. n (ap (smaller_of x) e ∙ smaller-no x)) i d (omega arith)

least_possible : (xs : List K3) → All (λ x. x ≢ No) xs → least_in xs ≢ No
least_possible [] all = λ e. cc
least_possible (x ∷ xs) all =
    λ e. ⊎_elim (all 0 No (omega arith)) (least_possible xs (λ i d lt. all (suc i) d (omega arith))) (smaller_no x (least_in xs) e)

pub all_possible : (xs : List K3) → (least_in xs ≢ No) ↔ All (λ x. x ≢ No) xs
all_possible xs = (each_possible xs, least_possible xs)

-- ---- all are one value

-- the least isn't below k, and the greatest not above it
abbrev Between : K3 → List K3 → Type 0
Between k xs = (smaller_of (least_in xs) k ≡ k) × (larger_of (greatest_in xs) k ≡ k)

below_first : (x l k : K3) → smaller_of (smaller_of x l) k ≡ k → (smaller_of x k ≡ k) × (smaller_of l k ≡ k)
below_first No l k e = (e, rw (sym e) (smaller-no l))
below_first Half No k e = (rw (sym e) refl, e)
below_first Half Half k e = (e, e)
below_first Half Yes k e = (e, refl)
below_first Yes l k e = (refl, e)

above_first : (x g k : K3) → larger_of (larger_of x g) k ≡ k → (larger_of x k ≡ k) × (larger_of g k ≡ k)
above_first No g k e = (refl, e)
above_first Half No k e = (e, refl)
above_first Half Half k e = (e, e)
above_first Half Yes k e = (rw (sym e) refl, e)
above_first Yes g k e = (e, rw (sym e) (larger-Yes g))
  where
    larger-Yes : (x : K3) → larger_of x Yes ≡ Yes
    larger-Yes No = refl
    larger-Yes Half = refl
    larger-Yes Yes = refl

squeezed : (x k : K3) → smaller_of x k ≡ k → larger_of x k ≡ k → x ≡ k
squeezed No k e f = e
squeezed Half No e f = f
squeezed Half Half e f = refl
squeezed Half Yes e f = e
squeezed Yes k e f = f

each_is : (k : K3) (xs : List K3) → Between k xs → All (λ x. x ≡ k) xs
each_is k [] h i d lt = absurd (omega arith)
each_is k (x ∷ xs) h zero d lt = squeezed x k (below_first x (least_in xs) k h.0).0 (above_first x (greatest_in xs) k h.1).0
each_is k (x ∷ xs) h (suc i) d lt =
    each_is k xs ((below_first x (least_in xs) k h.0).1, (above_first x (greatest_in xs) k h.1).1) i d (omega arith)

smaller-same : (k l : K3) → smaller_of l k ≡ k → smaller_of (smaller_of k l) k ≡ k
smaller-same No l e = refl
smaller-same Half No e = e
smaller-same Half Half e = refl
smaller-same Half Yes e = refl
smaller-same Yes l e = e

larger-same : (k g : K3) → larger_of g k ≡ k → larger_of (larger_of k g) k ≡ k
larger-same No g e = e
larger-same Half No e = refl
larger-same Half Half e = refl
larger-same Half Yes e = e
larger-same Yes g e = refl

between : (k : K3) (xs : List K3) → All (λ x. x ≡ k) xs → Between k xs
between k [] all = (refl, refl)
between k (x ∷ xs) all =
    let e : x ≡ k = all 0 No (omega arith)
    in let h : Between k xs = between k xs (λ i d lt. all (suc i) d (omega arith))
    in (
      rw e (smaller-same k (least_in xs) h.0),
      rw e (larger-same k (greatest_in xs) h.1),
    )

pub all_are : (k : K3) (xs : List K3) → Between k xs ↔ All (λ x. x ≡ k) xs
all_are k xs = (each_is k xs, between k xs)
