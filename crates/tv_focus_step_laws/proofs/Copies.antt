-- The copies of a choice, and the sets that they come of.
use Rattle.std.proofs.Common.{ℕ, ◌≡◌, ◌<◌, ◌+◌, zero, suc, List, [], ◌∷◌, length, get_or}
use Rattle.std.proofs.Common.{subst, arith, All, Contains}
use Rattle.std.specs.List.{range_with_len, AllZip}
use Rattle.std.proofs.lemmas.List.Elements.{All-nil, All-append, All-map, Contains-get_or}
use Rattle.std.proofs.lemmas.List.Elements.{Contains-append_left, Contains-append_right}
use Rattle.tv_kleene.specs.declared.K3.{K3}
use Rattle.tv_model.proofs.Lists.{Contains-map}
use Rattle.tv_focus_laws.specs.Choices.{ChoiceForm, MemberForm, VectorSet, members, members_of}

-- the set of which the copy comes, of which Q holds
abbrev pub IsOfSet : (ℕ → VectorSet → Type 0) → MemberForm → Type 0
IsOfSet Q m = (set : VectorSet) × Q m.origin set × Contains set m.vector

pub copies-of_sets : (Q : ℕ → VectorSet → Type 0) (us : List ℕ) (choice : ChoiceForm) → AllZip Q us choice
    → All (IsOfSet Q) (members us choice)
copies-of_sets Q [] choice zip = All-nil (IsOfSet Q)
copies-of_sets Q (u ∷ us) [] zip = absurd zip
copies-of_sets Q (u ∷ us) (set ∷ choice) zip =
    All-append (IsOfSet Q) (members_of u set) (members us choice)
    (All-map (IsOfSet Q) (λ (vector : List K3). record { origin = u; vector = vector }) set
    (λ k d lt. (set, zip.0, Contains-get_or set k d lt)))
    (copies-of_sets Q us choice zip.1)

-- the sets stand at the places of their individuals
pub sets-placed : (n : ℕ) (choice : ChoiceForm) (u : ℕ) (set : VectorSet)
    → ((k : ℕ) → n + k ≡ u → k < length choice → get_or choice k [] ≡ set)
    → AllZip (λ w own. w ≡ u → own ≡ set) (range_with_len n (length choice)) choice
sets-placed n [] u set at = tt
sets-placed n (own ∷ choice) u set at = (
  λ e. at 0 (omega (arith, e)) (omega arith),
  sets-placed (n + 1) choice u set (λ k e lt. at (suc k) (omega (arith, e)) (omega (arith, lt))),
)

-- each vector of a set has its copy
pub copy-there : (n : ℕ) (choice : ChoiceForm) (k u : ℕ) (vector : List K3) → n + k ≡ u → k < length choice
    → Contains (get_or choice k []) vector
    → Contains (members (range_with_len n (length choice)) choice) (record { origin = u; vector = vector })
copy-there n [] k u vector e lt at = absurd (omega (arith, lt))
copy-there n (set ∷ choice) zero u vector e lt at =
    let Has : ℕ → Type 0 = λ w. Contains (members_of w set) (record { origin = u; vector = vector })
    in Contains-append_left (members_of n set) (members (range_with_len (n + 1) (length choice)) choice)
    (record { origin = u; vector = vector })
    (subst Has (omega (arith, e)) (Contains-map (λ (v : List K3). record { origin = u; vector = v }) vector set at))
copy-there n (set ∷ choice) (suc k) u vector e lt at =
    Contains-append_right (members_of n set) (members (range_with_len (n + 1) (length choice)) choice)
    (record { origin = u; vector = vector })
    (copy-there (n + 1) choice k u vector (omega (arith, e)) (omega (arith, lt)) at)
