-- The individuals that may be picked are individuals.
use Rattle.std.proofs.Common.{ℕ, ◌≡◌, ◌⊎◌, zero, suc, List, [], ◌∷◌, length, map, inl, inr, ⊎_elim, refl, sym}
use Rattle.std.proofs.Common.{subst, arith, All, Contains}
use Rattle.std.proofs.lemmas.Bool.{cases_eq}
use Rattle.std.proofs.lemmas.List.Elements.{All-nil, All-cons, All-head, All-tail}
use Rattle.tv_model.specs.Program.{ActionForm}
use Rattle.tv_model.specs.Rules.{blank}
use Rattle.tv_model.specs.Truth.{Assignment, put, put_all}
use Rattle.tv_model.proofs.Assignments.{put-same, put-other}
use Rattle.tv_model.proofs.Lists.{Contains-cases, Contains-none, Contains-map_back, Contains-flat_map_back}
use Rattle.tv_model.proofs.Lists.{Contains-filter_back, All-from_contains}
use Rattle.tv_embedding_laws.specs.LogicalStructure.{LogicalStructure}
use Rattle.tv_update_laws.specs.Picks.{lists_of, picks_of, passing_picks, isnt_no, precondition_value}

-- n of the individuals
pub record AreOf (us : List ℕ) (n : ℕ) (xs : List ℕ) : Type 0 where
  pub count : length xs ≡ n
  pub inside : All (Contains us) xs

pub lists-inside : (us : List ℕ) (n : ℕ) (xs : List ℕ) → Contains (lists_of us n) xs → AreOf us n xs
lists-inside us zero xs at =
    ⊎_elim
    (λ e. subst (AreOf us 0) e (record { count = refl; inside = All-nil (Contains us) }))
    (λ none. absurd (Contains-none xs none))
    (Contains-cases [] xs [] at)
lists-inside us (suc n) xs at =
    let first : (u : ℕ) × Contains us u × Contains (map (λ ws. u ∷ ws) (lists_of us n)) xs
    = Contains-flat_map_back (λ u. map (λ ws. u ∷ ws) (lists_of us n)) us xs at
    in let rest : (ws : List ℕ) × Contains (lists_of us n) ws × (first.0 ∷ ws ≡ xs)
    = Contains-map_back (λ ws. first.0 ∷ ws) (lists_of us n) xs first.2
    in let later : AreOf us n rest.0 = lists-inside us n rest.0 rest.1
    in subst (AreOf us (suc n)) rest.2
    (record {
      count = omega (arith, later.count);
      inside = All-cons
          (Contains us) first.0 rest.0 first.1 later.inside;
    })

-- what tuples put for variables are individuals
pub put_all-inside : (us : List ℕ) (vars tuple : List ℕ) (a : Assignment) → length tuple ≡ length vars
    → All (Contains us) tuple
    → (v : ℕ) → Contains vars v ⊎ Contains us (a v) → Contains us (put_all a vars tuple v)
put_all-inside us [] tuple a fits all v (inl none) = absurd (Contains-none v none)
put_all-inside us [] tuple a fits all v (inr own) = own
put_all-inside us (w ∷ vars) [] a fits all v known = absurd (omega (arith, fits))
put_all-inside us (w ∷ vars) (u ∷ tuple) a fits all v known =
    put_all-inside us vars tuple (put a w u) (omega (arith, fits)) (All-tail (Contains us) u tuple all) v
    (⊎_elim
    (λ e. inr (subst (Contains us) (sym (put-same a w u v e)) (All-head (Contains us) u tuple all)))
    (λ other. ⊎_elim
    (λ among. ⊎_elim (λ e. absurd (other (sym e))) (λ later. inl later) (Contains-cases w v vars among))
    (λ own. inr (subst (Contains us) (sym (put-other a w u v other)) own))
    known)
    (cases_eq v w))

pub picked-inside : (action : ActionForm) (s : LogicalStructure) (picked : List ℕ)
    → AreOf s.individuals (length action.picks) picked
    → All (λ v. Contains s.individuals (picks_of action picked v)) action.picks
picked-inside action s picked are =
    All-from_contains (λ v. Contains s.individuals (picks_of action picked v)) action.picks
    (λ v at. put_all-inside s.individuals action.picks picked blank are.count are.inside v (inl at))

pub passing-are : (action : ActionForm) (s : LogicalStructure) (picked : List ℕ)
    → Contains (passing_picks action s) picked
    → AreOf s.individuals (length action.picks) picked
passing-are action s picked at =
    lists-inside s.individuals (length action.picks) picked
    (Contains-filter_back (λ us. isnt_no (precondition_value s (picks_of action us) action.pre))
    (lists_of s.individuals (length action.picks)) picked at).0
