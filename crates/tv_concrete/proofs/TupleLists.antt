-- All tuples of individuals are exactly the lists of that length.
use Rattle.std.proofs.Common.{ℕ, ◌≡◌, ◌↔◌, List, [], ◌∷◌, length, map, All, Contains, IsTrue, Bool, refl}
use Rattle.std.proofs.Common.{arith, subst, ap, suc, zero, ⊎_elim}
use Rattle.std.proofs.lemmas.List.Elements.{All-nil, All-cons, All-head, All-tail, All-contains}
use Rattle.tv_model.proofs.Lists.{Contains-here, Contains-cases, Contains-none, Contains-map}
use Rattle.tv_model.proofs.Lists.{Contains-map_back, Contains-flat_map, Contains-flat_map_back}
use Rattle.tv_model.proofs.Lists.{All-from_contains}
use Rattle.tv_concrete.specs.Tuples.{tuples_of}

pub tuple-fits : (xs : List ℕ) (n : ℕ) (us : List ℕ) → Contains (tuples_of xs n) us → (length us ≡ n)
    × All (Contains xs) us
tuple-fits xs zero us at =
    ⊎_elim
    (λ e. let Fits : List ℕ → Type 0 = λ vs. (length vs ≡ 0) × All (Contains xs) vs
    in subst Fits e (refl, All-nil (Contains xs)))
    (λ none. absurd (Contains-none us none))
    (Contains-cases [] us [] at)
tuple-fits xs (suc n) us at =
    let part : (tuple : List ℕ) × Contains (tuples_of xs n) tuple × Contains (map (λ u. u ∷ tuple) xs) us =
    Contains-flat_map_back (λ tuple. map (λ u. u ∷ tuple) xs) (tuples_of xs n) us at
    in let front : (u : ℕ) × Contains xs u × (u ∷ part.0 ≡ us) = Contains-map_back (λ u. u ∷ part.0) xs us part.2
    in let rest : (length part.0 ≡ n) × All (Contains xs) part.0 = tuple-fits xs n part.0 part.1
    in let Fits : List ℕ → Type 0 = λ vs. (length vs ≡ suc n) × All (Contains xs) vs
    in subst Fits front.2 (ap suc rest.0, All-cons (Contains xs) front.0 part.0 front.1 rest.1)

pub tuple-found : (xs : List ℕ) (n : ℕ) (us : List ℕ) → length us ≡ n → All (Contains xs) us
    → Contains (tuples_of xs n) us
tuple-found xs zero [] long all = Contains-here [] []
tuple-found xs zero (u ∷ us) long all = absurd (omega (arith, long))
tuple-found xs (suc n) [] long all = absurd (omega (arith, long))
tuple-found xs (suc n) (u ∷ us) long all =
    Contains-flat_map (λ tuple. map (λ w. w ∷ tuple) xs) (tuples_of xs n) us (u ∷ us)
    (tuple-found xs n us (omega (arith, long)) (All-tail (Contains xs) u us all))
    (Contains-map (λ w. w ∷ us) u xs (All-head (Contains xs) u us all))

-- an answer on the list of tuples is one on all tuples
pub tuples-answer : (P : List ℕ → Type 0) (xs : List ℕ) (n : ℕ) (all : List (List ℕ)) (b : Bool) → all ≡ tuples_of xs n
    → IsTrue b ↔ All P all → IsTrue b ↔ ((us : List ℕ) → (length us ≡ n) × All (Contains xs) us → P us)
tuples-answer P xs n all b is answer =
    let Of : List (List ℕ) → Type 0 = λ ts. IsTrue b ↔ All P ts
    in let moved : IsTrue b ↔ All P (tuples_of xs n) = subst Of is answer
    in (
      λ t us fits. All-contains P (tuples_of xs n) us (moved.0 t) (tuple-found xs n us fits.0 fits.1),
      λ each. moved.1 (All-from_contains P (tuples_of xs n) (λ us at. each us (tuple-fits xs n us at))),
    )
