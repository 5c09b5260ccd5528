-- The listed choices are exactly those of the individuals that stay.
use Rattle.std.proofs.Common.{ℕ, ◌≡◌, ◌≢◌, Bool, true, false, List, [], ◌∷◌, map, filter, suc, ⊎_elim, refl}
use Rattle.std.proofs.Common.{sym, ap, subst, ◌∙◌, Contains, cond, eqb, eq-eqb, ne_eqb, arith}
use Rattle.std.specs.Prelude.{AllPairs}
use Rattle.std.proofs.lemmas.Bool.{cond-true, cond-false}
use Rattle.std.proofs.lemmas.List.Elements.{Contains-append_cases}
use Rattle.tv_kleene.specs.declared.K3.{K3}
use Rattle.tv_kleene.specs.declared.K3.TheVariants.{No, Half, Yes}
use Rattle.tv_model.proofs.Lists.{Contains-none, Contains-cases, Contains-map_back}
use Rattle.tv_update_laws.specs.Applied.{MayChoose, keep_value}
use Rattle.tv_update_laws.specs.Choices.{with_choice, choices_of, ChoicesAreExact}
use Rattle.tv_update_laws.proofs.Choices.{choice-listed}
use Rattle.tv_update_laws.proofs.Filters.{filter-alike}

-- a choice that keeps these
pub record KeepsThese (value : ℕ → K3) (us ws : List ℕ) : Type 0 where
  pub keep : ℕ → Bool
  pub may : (u : ℕ) → Contains us u → MayChoose (value u) (keep u)
  pub these : ws ≡ filter keep us

head-apart : (u : ℕ) (us : List ℕ) → AllPairs ◌≢◌ (u ∷ us) → (w : ℕ) → Contains us w → w ≢ u
head-apart u us apart w (k, lt, at) same =
    apart 0 (suc k) w (omega arith) (omega (arith, lt)) (sym same ∙ sym at)

tail-apart : (u : ℕ) (us : List ℕ) → AllPairs ◌≢◌ (u ∷ us) → AllPairs ◌≢◌ us
tail-apart u us apart i j d lt within = apart (suc i) (suc j) d (omega (arith, lt)) (omega (arith, within))

-- the choice with one more individual
with-one : (value : ℕ → K3) (u : ℕ) (us ws : List ℕ) → AllPairs ◌≢◌ (u ∷ us) → KeepsThese value us ws
    → (b : Bool) → MayChoose (value u) b → KeepsThese value (u ∷ us) (cond b (u ∷ ws) ws)
with-one value u us ws apart old b may = record {
  keep = keep;
  may = λ w at.
      ⊎_elim
      (λ e. subst (λ x. MayChoose (value x) (keep x)) e (subst (MayChoose (value u)) (sym here) may))
      (λ there. subst (MayChoose (value w)) (sym (elsewhere w there)) (old.may w there))
      (Contains-cases u w us at);
  these = ap (λ xs. cond b (u ∷ xs) xs) rest
      ∙ ap (λ c. cond c (u ∷ filter keep us) (filter keep us)) (sym here);
}
  where
    keep : ℕ → Bool
    keep w = cond (eqb w u) b (old.keep w)

    here : cond (eqb u u) b (old.keep u) ≡ b
    here = cond-true (eqb u u) b (old.keep u) (eq-eqb u u refl)

    elsewhere : (w : ℕ) → Contains us w → cond (eqb w u) b (old.keep w) ≡ old.keep w
    elsewhere w at = cond-false (eqb w u) b (old.keep w) (ne_eqb w u (head-apart u us apart w at))

    rest : ws ≡ filter (λ w. cond (eqb w u) b (old.keep w)) us
    rest = old.these ∙ filter-alike old.keep (λ w. cond (eqb w u) b (old.keep w)) us
        (λ w at. sym (elsewhere w at))

pub listed-choice : (value : ℕ → K3) (us ws : List ℕ) → AllPairs ◌≢◌ us → Contains (choices_of value us) ws
    → KeepsThese value us ws
listed-choice value [] ws apart at =
    ⊎_elim
    (λ e. record { keep = λ u. true; may = λ u none. absurd (Contains-none u none); these = sym e })
    (λ none. absurd (Contains-none ws none))
    (Contains-cases [] ws [] at)
listed-choice value (u ∷ us) ws apart at =
    by_value (λ xs old. listed-choice value us xs (tail-apart u us apart) old) (value u) refl at
  where
    front : ((xs : List ℕ) → Contains (choices_of value us) xs → KeepsThese value us xs)
        → MayChoose (value u) true → Contains (map (λ xs. u ∷ xs) (choices_of value us)) ws
        → KeepsThese value (u ∷ us) ws
    front later may fronted =
        let d : (xs : List ℕ) × Contains (choices_of value us) xs × ((u ∷ xs) ≡ ws)
        = Contains-map_back (λ xs. u ∷ xs) (choices_of value us) ws fronted
        in subst (KeepsThese value (u ∷ us)) d.2 (with-one value u us d.0 apart (later d.0 d.1) true may)

    by_value : ((xs : List ℕ) → Contains (choices_of value us) xs → KeepsThese value us xs)
        → (k : K3) → value u ≡ k → Contains (with_choice k u (choices_of value us)) ws
        → KeepsThese value (u ∷ us) ws
    by_value later No e old =
        with-one value u us ws apart (later ws old) false (subst (λ k. MayChoose k false) (sym e) refl)
    by_value later Half e either =
        ⊎_elim
        (λ old. with-one value u us ws apart (later ws old) false (subst (λ k. MayChoose k false) (sym e) tt))
        (front later (subst (λ k. MayChoose k true) (sym e) tt))
        (Contains-append_cases (choices_of value us) (map (λ xs. u ∷ xs) (choices_of value us)) ws either)
    by_value later Yes e fronted = front later (subst (λ k. MayChoose k true) (sym e) refl) fronted

pub choices_are_exact : ChoicesAreExact
choices_are_exact middle picks retain apart us = (
  λ at. let d : KeepsThese (keep_value middle picks retain) middle.individuals us
      = listed-choice (keep_value middle picks retain) middle.individuals us apart at
      in (d.keep, d.may, d.these),
  λ d. subst (Contains (choices_of (keep_value middle picks retain) middle.individuals)) (sym d.2)
      (choice-listed (keep_value middle picks retain) d.0 middle.individuals d.1),
)
