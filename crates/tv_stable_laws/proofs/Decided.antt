-- What holds of all tuples below one is decided.
use Rattle.std.proofs.Common.{ℕ, ◌≡◌, List, [], ◌∷◌, map, inl, inr, ⊎_elim, refl, sym, subst, All, Contains}
use Rattle.std.proofs.lemmas.Bool.{cases_eq}
use Rattle.std.proofs.lemmas.List.Elements.{All-nil, All-cons, All-head, All-tail}
use Rattle.tv_model.proofs.Decided.{IsDecided, forall-decided, implies-decided}
use Rattle.tv_stable_laws.proofs.Images.{map-nil}

-- P holds of each tuple of the individuals that m takes to this one
abbrev pub EachBelow : (ℕ → ℕ) → List ℕ → List ℕ → (List ℕ → Type 0) → Type 0
EachBelow m us tuple P = (below : List ℕ) → All (Contains us) below → map m below ≡ tuple → P below

-- the same, one place after the other
below-from_places : (m : ℕ → ℕ) (us : List ℕ) (w : ℕ) (tuple : List ℕ) (P : List ℕ → Type 0)
    → ((u : ℕ) → Contains us u → m u ≡ w → EachBelow m us tuple (λ rest. P (u ∷ rest))) → EachBelow m us (w ∷ tuple) P
below-from_places m us w tuple P each [] all e = absurd (cc)
below-from_places m us w tuple P each (u ∷ below) all e =
    let goes : m u ≡ w = cc
    in let rest : map m below ≡ tuple = cc
    in each u (All-head (Contains us) u below all) goes below (All-tail (Contains us) u below all) rest

places-from_below : (m : ℕ → ℕ) (us : List ℕ) (w : ℕ) (tuple : List ℕ) (P : List ℕ → Type 0)
    → EachBelow m us (w ∷ tuple) P → (u : ℕ) → Contains us u → m u ≡ w → EachBelow m us tuple (λ rest. P (u ∷ rest))
places-from_below m us w tuple P each u at goes below all rest =
    let whole : m u ∷ map m below ≡ w ∷ tuple = cc
    in each (u ∷ below) (All-cons (Contains us) u below at all) whole

pub below-decided : (m : ℕ → ℕ) (us tuple : List ℕ) (P : List ℕ → Type 0) → ((xs : List ℕ) → IsDecided (P xs))
    → IsDecided (EachBelow m us tuple P)
below-decided m us [] P decided =
    ⊎_elim
    (λ p. inl (λ below all e. subst P (sym (map-nil m below e)) p))
    (λ n. inr (λ each. n (each [] (All-nil (Contains us)) refl)))
    (decided [])
below-decided m us (w ∷ tuple) P decided =
    let place : (u : ℕ) → IsDecided (m u ≡ w → EachBelow m us tuple (λ rest. P (u ∷ rest)))
    = λ u. implies-decided (m u ≡ w) (EachBelow m us tuple (λ rest. P (u ∷ rest))) (cases_eq (m u) w)
    (below-decided m us tuple (λ rest. P (u ∷ rest)) (λ rest. decided (u ∷ rest)))
    in ⊎_elim
    (λ each. inl (below-from_places m us w tuple P each))
    (λ none. inr (λ each. none (places-from_below m us w tuple P each)))
    (forall-decided (λ u. m u ≡ w → EachBelow m us tuple (λ rest. P (u ∷ rest))) place us)
