-- The flags of variables: which variables are known where a formula stands.
use Rattle.std.proofs.Common.{◌≡◌, ℕ, zero, suc, ◌<◌, Bool, true, false, get_or, set, List, [], ◌∷◌, ◌++◌}
use Rattle.std.proofs.Common.{length, refl, ap, sym, subst, ◌∙◌, arith, inl, inr, ◌⊎◌}
use Rattle.std.specs.Prelude.{Contains}
use Rattle.std.specs.List.{repeat}
use Rattle.std.proofs.lemmas.Bool.{cases_eq, false≢true}
use Rattle.std.proofs.lemmas.List.{length-set, get_or-set_same, get_or-set_other}
use Rattle.std.proofs.lemmas.List.Elements.{Contains-append_left, Contains-append_right}
use Rattle.tv_names.specs.Picks.{flagged, flags_of}

pub contains_head : (v : ℕ) (vars : List ℕ) → Contains (v ∷ vars) v
contains_head v vars = (0, omega arith, refl)

pub contains_tail : (w v : ℕ) (vars : List ℕ) → Contains vars v → Contains (w ∷ vars) v
contains_tail w v vars h = let lt = h.1 in (suc h.0, omega arith, h.2)

split_at : (w v : ℕ) (vars : List ℕ) (k : ℕ) → k < length (w ∷ vars) → get_or (w ∷ vars) k v ≡ v → (v ≡ w) ⊎ Contains vars v
split_at w v vars zero lt e = inl (sym e)
split_at w v vars (suc k) lt e = inr (k, omega arith, e)

pub contains_split : (w v : ℕ) (vars : List ℕ) → Contains (w ∷ vars) v → (v ≡ w) ⊎ Contains vars v
contains_split w v vars h = split_at w v vars h.0 h.1 h.2

pub no_flag : (n v : ℕ) → get_or (repeat n (false ∷ [])) v false ≡ false
no_flag zero v = refl
no_flag (suc n) zero = refl
no_flag (suc n) (suc v) = no_flag n v

pub flagged_from : (vars : List ℕ) (flags : List Bool) (v : ℕ) → get_or (flagged flags vars) v false ≡ true → (get_or flags v false ≡ true) ⊎ Contains vars v
flagged_from [] flags v h = inl h
flagged_from (w ∷ vars) flags v h =
    elim (flagged_from vars (set flags w true) v h) [
      | inl k ↦
          elim (cases_eq v w) [
            | inl same ↦ inr (subst (λ (u : ℕ). Contains (u ∷ vars) v) same (contains_head v vars))
            | inr other ↦ inl (sym (get_or-set_other flags w v true false other) ∙ k)
          ]
      | inr k ↦ inr (contains_tail w v vars k)
    ]

-- a known variable is one of those
pub known_from : (vars : List ℕ) (v : ℕ) → get_or (flags_of vars) v false ≡ true → Contains vars v
known_from vars v h =
    elim (flagged_from vars (repeat 32 (false ∷ [])) v h) [
      | inl k ↦ absurd (false≢true (sym (no_flag 32 v) ∙ k))
      | inr k ↦ k
    ]

pub known_from_two : (vars picks : List ℕ) (v : ℕ) → get_or (flagged (flags_of vars) picks) v false ≡ true → Contains (vars ++ picks) v
known_from_two vars picks v h =
    elim (flagged_from picks (flags_of vars) v h) [
      | inl k ↦ Contains-append_left vars picks v (known_from vars v k)
      | inr k ↦ Contains-append_right vars picks v k
    ]

pub flagged_to : (vars : List ℕ) (flags : List Bool) (v : ℕ) → v < length flags → (get_or flags v false ≡ true) ⊎ Contains vars v → get_or (flagged flags vars) v false ≡ true
flagged_to [] flags v lt (inl h) = h
flagged_to [] flags v lt (inr h) = let none : h.0 < 0 = h.1 in absurd (omega arith)
flagged_to (w ∷ vars) flags v lt h =
    let long : v < length (set flags w true) = omega (arith, length-set flags w true) in
    flagged_to vars (set flags w true) v long
    (elim (cases_eq v w) [
      | inl same ↦ inl (ap (λ (u : ℕ). get_or (set flags w true) u false) same ∙ get_or-set_same flags w true false (subst (λ (u : ℕ). u < length flags) same lt))
      | inr other ↦
          elim h [
            | inl k ↦ inl (get_or-set_other flags w v true false other ∙ k)
            | inr k ↦ elim (contains_split w v vars k) [ inl e ↦ absurd (other e) | inr e ↦ inr e ]
          ]
    ])

pub known_to : (vars : List ℕ) (v : ℕ) → v < 32 → Contains vars v → get_or (flags_of vars) v false ≡ true
known_to vars v lt h = flagged_to vars (repeat 32 (false ∷ [])) v lt (inr h)
