-- The unary abstraction predicates.
use Rattle.std.proofs.Common.{ℕ, ◌≡◌, ◌⊎◌, ◌<◌, ◌≤◌, ◌+◌, inl, inr, Bool, true, false, List, [], ◌∷◌, ◌++◌}
use Rattle.std.proofs.Common.{get_or, length, map, take, Some, refl, sym, ap, ◌∙◌, ◌==◌, eqb-true}
use Rattle.std.specs.Prelude.{All, ◌&&◌, slice_get, if◌then◌else◌}
use Rattle.std.proofs.lemmas.Bool.{cases_lt}
use Rattle.std.proofs.lemmas.Option.{slice_get-get_or}
use Rattle.std.proofs.lemmas.List.{get_or-map, length-map, get_or_default, get_or_past}
use Rattle.std.proofs.lemmas.List.Elements.{All-nil}
use Rattle.tv_model.specs.declared.program.Pred.{Pred}
use Rattle.tv_structure_form.specs.StructureForm.{kept_from}
use Rattle.tv_structure_form.proofs.OriginLaws.{kept_from_more, are_kept}
use Rattle.tv_blur.specs.Names.{is_abstraction}

pub abstraction_more : (preds : List Pred) (i : ℕ) (d : Pred) → i < length preds
    → kept_from 0 (take (i + 1) (map is_abstraction preds))
    ≡ kept_from 0 (take i (map is_abstraction preds)) ++ (if is_abstraction (get_or preds i d) then i ∷ [] else [])
abstraction_more preds i d lt =
    rw (← get_or-map is_abstraction preds i d false lt)
    (kept_from_more (map is_abstraction preds) i false (rw (length-map preds is_abstraction) lt))

-- ---- abstraction predicates are unary

pub told_arity : (preds : List Pred) (arities : List ℕ) (p : ℕ) (pred : Pred) → arities ≡ map (λ pred. pred.arity) preds
    → p < length preds → pred ≡ get_or preds p pred → is_abstraction pred ≡ true → slice_get arities p ≡ Some 1
told_arity preds arities p pred over lt is told =
    rw over
    (slice_get-get_or (map (λ pred. pred.arity) preds) p 0 (rw (length-map preds (λ pred. pred.arity)) lt)
    ∙ ap Some (get_or-map (λ pred. pred.arity) preds p pred 0 lt ∙ ap (λ (x : Pred). x.arity) (sym is)
    ∙ eqb-true pred.arity 1 (of_true (pred.arity == 1) pred.abs told)))
  where
    of_true : (a b : Bool) → (a && b) ≡ true → a ≡ true
    of_true true b e = refl
    of_true false b e = e

abstraction-unary_under : (no_pred : Pred) (preds : List Pred) (arities : List ℕ) → arities ≡ map (λ pred. pred.arity) preds
    → All (λ p. slice_get arities p ≡ Some 1) (kept_from 0 (map is_abstraction preds))
abstraction-unary_under no_pred preds arities over k d lt =
    let p : ℕ = get_or (kept_from 0 (map is_abstraction preds)) k d
    in let flag : get_or (map is_abstraction preds) p false ≡ true
    = ((are_kept (map is_abstraction preds)).flagged p).0
    (k, lt, get_or_default (kept_from 0 (map is_abstraction preds)) k p d lt)
    in unary p flag (cases_lt p (length preds))
  where
    of_true : (a b : Bool) → (a && b) ≡ true → a ≡ true
    of_true true b e = refl
    of_true false b e = e

    unary : (p : ℕ) → get_or (map is_abstraction preds) p false ≡ true → (p < length preds) ⊎ (length preds ≤ p)
        → slice_get arities p ≡ Some 1
    unary p flag (inr past) =
        absurd (let f : false ≡ true
        = sym (get_or_past (map is_abstraction preds) p false (rw (length-map preds is_abstraction) past)) ∙ flag in cc)
    unary p flag (inl within) =
        let pred : Pred = get_or preds p no_pred
        in let one : pred.arity ≡ 1
        = eqb-true pred.arity 1
        (of_true (pred.arity == 1) pred.abs (sym (get_or-map is_abstraction preds p no_pred false within) ∙ flag))
        in rw over
        (slice_get-get_or (map (λ pred. pred.arity) preds) p 0 (rw (length-map preds (λ pred. pred.arity)) within)
        ∙ ap Some (get_or-map (λ pred. pred.arity) preds p no_pred 0 within ∙ one))

pub abstraction-unary : (preds : List Pred) (arities : List ℕ) → arities ≡ map (λ pred. pred.arity) preds
    → All (λ p. slice_get arities p ≡ Some 1) (kept_from 0 (map is_abstraction preds))
abstraction-unary [] arities over = All-nil (λ p. slice_get arities p ≡ Some 1)
abstraction-unary (pred ∷ preds) arities over = abstraction-unary_under pred (pred ∷ preds) arities over
