-- Updates by their predicates.
use Rattle.std.proofs.Common.{ℕ, ◌≡◌, ◌≢◌, ◌⊎◌, List, [], ◌∷◌, map, Some, None, inl, inr, ⊎_elim, refl, sym}
use Rattle.std.proofs.Common.{ap, ◌∙◌, arith, Contains, AllPairs, eqb, eq-eqb, ne_eqb, suc}
use Rattle.std.proofs.lemmas.Bool.{cases_eq, cond-true, cond-false}
use Rattle.tv_model.specs.Program.{UpdateForm}
use Rattle.tv_model.specs.Step.{update_for}
use Rattle.tv_model.proofs.Lists.{Contains-none, Contains-cases, Contains-map}
use Rattle.std.proofs.lemmas.List.Elements.{All-contains}

later-differ : (w : UpdateForm) (updates : List UpdateForm) → AllPairs ◌≢◌ (map (λ (x : UpdateForm). x.pred) (w ∷ updates))
    → (x : UpdateForm) → Contains updates x → w.pred ≢ x.pred
later-differ w updates once x at =
    All-contains (λ q. w.pred ≢ q) (map (λ (y : UpdateForm). y.pred) updates) x.pred
    (λ i d lt. once 0 (suc i) d (omega arith) (omega (arith, lt))) (Contains-map (λ (y : UpdateForm). y.pred) x updates at)

-- each update is the one of its predicate, where each predicate has one at most
pub update-found : (updates : List UpdateForm) → AllPairs ◌≢◌ (map (λ (x : UpdateForm). x.pred) updates)
    → (w : UpdateForm) → Contains updates w → update_for w.pred updates ≡ Some w
update-found [] once w at = absurd (Contains-none w at)
update-found (x ∷ updates) once w at =
    ⊎_elim
    (λ e. ap (λ (y : UpdateForm). update_for y.pred (x ∷ updates)) (sym e)
    ∙ cond-true (eqb x.pred x.pred) (Some x) (update_for x.pred updates) (eq-eqb x.pred x.pred refl) ∙ ap Some e)
    (λ later. cond-false (eqb x.pred w.pred) (Some x) (update_for w.pred updates) (ne_eqb x.pred w.pred (later-differ x updates once w later))
    ∙ update-found updates (λ i j d lt within. once (suc i) (suc j) d (omega (arith, lt)) (omega (arith, within))) w later)
    (Contains-cases x w updates at)

-- a predicate without an update is none of theirs
pub update-none : (q : ℕ) (updates : List UpdateForm) → update_for q updates ≡ None → (w : UpdateForm) → Contains updates w → w.pred ≢ q
update-none q [] none w at same = Contains-none w at
update-none q (x ∷ updates) none w at same = go (λ none_later later. update-none q updates none_later w later same) (cases_eq x.pred q)
  where
    clash : Some x ≡ None → ⊥
    clash e = cc

    go : (update_for q updates ≡ None → Contains updates w → ⊥) → (x.pred ≡ q) ⊎ (x.pred ≢ q) → ⊥
    go rest (inl e) = clash (sym (cond-true (eqb x.pred q) (Some x) (update_for q updates) (eq-eqb x.pred q e)) ∙ none)
    go rest (inr ne) =
        ⊎_elim (λ e. ne (ap (λ (y : UpdateForm). y.pred) e ∙ same))
        (λ later. rest (sym (cond-false (eqb x.pred q) (Some x) (update_for q updates) (ne_eqb x.pred q ne)) ∙ none) later)
        (Contains-cases x w updates at)
