-- The lists of n individuals are exactly those of that length.
use Rattle.std.proofs.Common.{ℕ, ◌≡◌, List, [], ◌∷◌, length, map, All, Contains, refl, arith, subst, ap, suc}
use Rattle.std.proofs.Common.{zero, ⊎_elim}
use Rattle.std.proofs.lemmas.List.Elements.{All-nil, All-cons, All-head, All-tail}
use Rattle.tv_model.proofs.Lists.{Contains-here, Contains-cases, Contains-none, Contains-map}
use Rattle.tv_model.proofs.Lists.{Contains-map_back, Contains-flat_map, Contains-flat_map_back}
use Rattle.tv_two_valued.specs.TwoValued.{lists_of}

pub list-fits : (xs : List ℕ) (n : ℕ) (us : List ℕ) → Contains (lists_of xs n) us → (length us ≡ n) × All (Contains xs) us
list-fits xs zero us at =
    ⊎_elim
    (λ e. let Fits : List ℕ → Type 0 = λ vs. (length vs ≡ 0) × All (Contains xs) vs
    in subst Fits e (refl, All-nil (Contains xs)))
    (λ none. absurd (Contains-none us none))
    (Contains-cases [] us [] at)
list-fits xs (suc n) us at =
    let part : (u : ℕ) × Contains xs u × Contains (map (λ tuple. u ∷ tuple) (lists_of xs n)) us =
    Contains-flat_map_back (λ u. map (λ tuple. u ∷ tuple) (lists_of xs n)) xs us at
    in let behind : (tuple : List ℕ) × Contains (lists_of xs n) tuple × (part.0 ∷ tuple ≡ us) =
    Contains-map_back (λ tuple. part.0 ∷ tuple) (lists_of xs n) us part.2
    in let rest : (length behind.0 ≡ n) × All (Contains xs) behind.0 = list-fits xs n behind.0 behind.1
    in let Fits : List ℕ → Type 0 = λ vs. (length vs ≡ suc n) × All (Contains xs) vs
    in subst Fits behind.2 (ap suc rest.0, All-cons (Contains xs) part.0 behind.0 part.1 rest.1)

pub list-found : (xs : List ℕ) (n : ℕ) (us : List ℕ) → length us ≡ n → All (Contains xs) us → Contains (lists_of xs n) us
list-found xs zero [] long all = Contains-here [] []
list-found xs zero (u ∷ us) long all = absurd (omega (arith, long))
list-found xs (suc n) [] long all = absurd (omega (arith, long))
list-found xs (suc n) (u ∷ us) long all =
    Contains-flat_map (λ w. map (λ tuple. w ∷ tuple) (lists_of xs n)) xs u (u ∷ us)
    (All-head (Contains xs) u us all)
    (Contains-map (λ tuple. u ∷ tuple) us (lists_of xs n)
    (list-found xs n us (omega (arith, long)) (All-tail (Contains xs) u us all)))

-- ---- what is said of lists of so many

pub no-members : (P : List ℕ → Type 0) → P [] → (tuple : List ℕ) → length tuple ≡ 0 → P tuple
no-members P none [] long = none
no-members P none (u ∷ us) long = absurd (omega (arith, long))

pub one-member : (P : List ℕ → Type 0) → ((u : ℕ) → P (u ∷ [])) → (tuple : List ℕ) → length tuple ≡ 1 → P tuple
one-member P each [] long = absurd (omega (arith, long))
one-member P each (u ∷ []) long = each u
one-member P each (u ∷ w ∷ us) long = absurd (omega (arith, long))

pub two-members : (P : List ℕ → Type 0) → ((u w : ℕ) → P (u ∷ w ∷ [])) → (tuple : List ℕ) → length tuple ≡ 2 → P tuple
two-members P each [] long = absurd (omega (arith, long))
two-members P each (u ∷ []) long = absurd (omega (arith, long))
two-members P each (u ∷ w ∷ []) long = each u w
two-members P each (u ∷ w ∷ x ∷ us) long = absurd (omega (arith, long))
