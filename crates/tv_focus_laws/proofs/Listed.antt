-- What stands among vectors, sets of vectors, and choices.
use Rattle.std.proofs.Common.{ℕ, ◌≡◌, ◌≢◌, ◌<◌, ◌≤◌, ◌+◌, zero, suc, Bool, true, false, cond, List, [], ◌∷◌}
use Rattle.std.proofs.Common.{◌++◌, ◌⊎◌, inl, inr, ⊎_elim, length, map, refl, sym, ap, subst, ◌∙◌, arith, All}
use Rattle.std.proofs.Common.{Contains}
use Rattle.std.specs.List.{flat_map, filter}
use Rattle.std.proofs.lemmas.Bool.{cases_Bool, cases_eq, cond-true, cond-false, false≢true}
use Rattle.std.proofs.lemmas.List.{nil_from_length}
use Rattle.std.proofs.lemmas.List.Elements.{Contains-append_left, Contains-append_right}
use Rattle.std.proofs.lemmas.List.Elements.{Contains-append_cases, All-head, All-tail}
use Rattle.tv_kleene.specs.declared.K3.{K3}
use Rattle.tv_kleene.specs.declared.K3.TheVariants.{No, Half, Yes}
use Rattle.tv_kleene.specs.Kleene.{LiesUnder}
use Rattle.tv_model.proofs.Lists.{Contains-here, Contains-there, Contains-none, Contains-cases, Contains-map}
use Rattle.tv_focus_laws.specs.Choices.{definite, vectors, picks, picks_to, sets_of, product}
use Rattle.tv_focus_laws.proofs.Membership.{ComesFrom, Contains-from_map, Contains-flat_map}
use Rattle.tv_focus_laws.proofs.Distinct.{Distinct, Distinct-append, Distinct-map}

pub definite-has : (x k : K3) → x ≢ Half → LiesUnder x k → Contains (definite k) x
definite-has No No d under = Contains-here No []
definite-has No Half d under = Contains-here No (Yes ∷ [])
definite-has No Yes d under = absurd (⊎_elim (λ e. cc) (λ e. cc) under)
definite-has Half k d under = absurd (d refl)
definite-has Yes No d under = absurd (⊎_elim (λ e. cc) (λ e. cc) under)
definite-has Yes Half d under = Contains-there No Yes (Yes ∷ []) (Contains-here Yes [])
definite-has Yes Yes d under = Contains-here Yes []

-- x is definite and lies under k
abbrev pub IsVectorOf : {T : Type 0} → (x k : T → K3) → T → Type 0
IsVectorOf x k t = (x t ≢ Half) × LiesUnder (x t) (k t)

-- a vector of definite values that lie under the given ones is listed
pub vectors-have : {T : Type 0} (x k : T → K3) (ts : List T) → All (IsVectorOf x k) ts → Contains (vectors (map k ts)) (map x ts)
vectors-have x k [] all = Contains-here [] []
vectors-have {T} x k (t ∷ ts) all =
    let first : IsVectorOf x k t = All-head (IsVectorOf x k) t ts all
    in Contains-flat_map (λ y. map (λ rest. y ∷ rest) (vectors (map k ts))) (x t) (x t ∷ map x ts) (definite (k t))
    (definite-has (x t) (k t) first.0 first.1)
    (Contains-map (λ rest. x t ∷ rest) (map x ts) (vectors (map k ts))
    (vectors-have x k ts (All-tail (IsVectorOf x k) t ts all)))

-- vectors are listed once
cons-injective : (k : K3) (xs ys : List K3) → k ∷ xs ≡ k ∷ ys → xs ≡ ys
cons-injective k xs ys e = cc

-- those that begin with a definite value that the first one stands for
begun : (vs : List (List K3)) (k : K3) → Distinct vs → Distinct (flat_map (λ x. map (λ rest. x ∷ rest) vs) (definite k))
begun vs k distinct = go k
  where
    one : (x : K3) → Distinct (map (λ rest. x ∷ rest) vs)
    one x = Distinct-map (λ rest. x ∷ rest) (cons-injective x) vs distinct

    alone : (x : K3) → Distinct (map (λ rest. x ∷ rest) vs ++ [])
    alone x = Distinct-append (map (λ rest. x ∷ rest) vs) [] (one x) tt (λ v at none. Contains-none v none)

    apart : (v : List K3) → Contains (map (λ rest. No ∷ rest) vs) v → Contains (map (λ rest. Yes ∷ rest) vs ++ []) v → ⊥
    apart v first second =
        ⊎_elim
        (λ other. let a : ComesFrom (λ rest. No ∷ rest) vs v = Contains-from_map (λ rest. No ∷ rest) v vs first
        in let b : ComesFrom (λ rest. Yes ∷ rest) vs v = Contains-from_map (λ rest. Yes ∷ rest) v vs other
        in let same : No ∷ a.source ≡ Yes ∷ b.source = a.goes ∙ sym b.goes
        in cc)
        (λ none. Contains-none v none)
        (Contains-append_cases (map (λ rest. Yes ∷ rest) vs) [] v second)

    go : (k : K3) → Distinct (flat_map (λ x. map (λ rest. x ∷ rest) vs) (definite k))
    go No = alone No
    go Half = Distinct-append (map (λ rest. No ∷ rest) vs) (map (λ rest. Yes ∷ rest) vs ++ []) (one No) (alone Yes) apart
    go Yes = alone Yes

pub vectors-distinct : (ks : List K3) → Distinct (vectors ks)
vectors-distinct [] = (λ at. Contains-none [] at, tt)
vectors-distinct (k ∷ ks) = begun (vectors ks) k (vectors-distinct ks)

-- what a filter keeps is one of the sublists of its length
pub picks-filter : {X : Type 0} (p : X → Bool) (xs : List X) (n : ℕ) → length (filter p xs) ≡ n → Contains (picks n xs) (filter p xs)
picks-filter {X} p xs zero e =
    let Has : List X → Type 0 = λ ys. Contains (picks zero xs) ys
    in subst Has (sym (nil_from_length (filter p xs) e)) (Contains-here [] [])
picks-filter p [] (suc n) e = absurd (omega (arith, e))
picks-filter {X} p (x ∷ xs) (suc n) e =
    ⊎_elim
    (λ passes. let same : cond (p x) (x ∷ filter p xs) (filter p xs) ≡ x ∷ filter p xs
    = cond-true (p x) (x ∷ filter p xs) (filter p xs) passes
    in let count : length (filter p xs) ≡ n = omega (arith, ap length same, e)
    in subst Has (sym same)
    (Contains-append_left (map (λ rest. x ∷ rest) (picks n xs)) (picks (suc n) xs) (x ∷ filter p xs)
    (Contains-map (λ rest. x ∷ rest) (filter p xs) (picks n xs) (picks-filter p xs n count))))
    (λ fails. let same : cond (p x) (x ∷ filter p xs) (filter p xs) ≡ filter p xs
    = cond-false (p x) (x ∷ filter p xs) (filter p xs) fails
    in subst Has (sym same)
    (Contains-append_right (map (λ rest. x ∷ rest) (picks n xs)) (picks (suc n) xs) (filter p xs)
    (picks-filter p xs (suc n) (sym (ap length same) ∙ e))))
    (cases_Bool (p x))
  where
    Has : List X → Type 0
    Has ys = Contains (map (λ rest. x ∷ rest) (picks n xs) ++ picks (suc n) xs) ys

pub picks_to-has : {X : Type 0} (n m : ℕ) (xs ys : List X) → 1 ≤ n → n ≤ m → Contains (picks n xs) ys → Contains (picks_to m xs) ys
picks_to-has n zero xs ys some le at = absurd (omega (arith, some, le))
picks_to-has {X} n (suc m) xs ys some le at =
    let At : ℕ → Type 0 = λ k. Contains (picks k xs) ys
    in ⊎_elim
    (λ e. Contains-append_right (picks_to m xs) (picks (suc m) xs) ys (subst At e at))
    (λ ne. Contains-append_left (picks_to m xs) (picks (suc m) xs) ys (picks_to-has n m xs ys some (omega (arith, le)) at))
    (cases_eq n (suc m))

-- one element of each list is a choice
pub product-has : {T X : Type 0} (all : T → List X) (one : T → X) (ts : List T) → All (λ t. Contains (all t) (one t)) ts
    → Contains (product (map all ts)) (map one ts)
product-has all one [] each = Contains-here [] []
product-has {T} {X} all one (t ∷ ts) each =
    Contains-flat_map (λ x. map (λ rest. x ∷ rest) (product (map all ts))) (one t) (one t ∷ map one ts) (all t)
    (All-head (λ t. Contains (all t) (one t)) t ts each)
    (Contains-map (λ rest. one t ∷ rest) (map one ts) (product (map all ts))
    (product-has all one ts (All-tail (λ t. Contains (all t) (one t)) t ts each)))
