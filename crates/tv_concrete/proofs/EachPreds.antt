-- A loop over the predicates that answers false at the first that fails, and else true.
use Rattle.std.proofs.Common.{ℕ, ◌≡◌, ◌<◌, ◌≤◌, ◌+◌, ◌↔◌, List, [], ◌∷◌, length, get_or, map, IsTrue, true}
use Rattle.std.proofs.Common.{false, refl, arith, subst, sym, suc, zero, Some, None, slice_get, ◌⊎◌, inl, inr}
use Rattle.std.proofs.Common.{◌∙◌}
use Rattle.std.proofs.lemmas.Bool.{false≢true}
use Rattle.std.proofs.lemmas.List.{get_or_default}
use Rattle.tv_model.specs.declared.program.Pred.{Pred}
use Rattle.tv_model.specs.Program.{PredForm, pred_of, EachPred}

-- P holds of each of the first i predicates, by its number
abbrev pub FirstPreds : (ℕ → PredForm → Type 0) → List Pred → ℕ → Type 0
FirstPreds P preds i = (k : ℕ) (d : Pred) → k < i → P k (pred_of (get_or preds k d))

-- a predicate found by its number stands there
pub found-pred : (preds : List Pred) (q : ℕ) (d : PredForm) → slice_get (map pred_of preds) q ≡ Some d
    → (x : Pred) × (q < length preds) × (pred_of (get_or preds q x) ≡ d)
found-pred [] q d found = absurd (none_is_some found)
  where
    none_is_some : None ≡ Some d → ⊥
    none_is_some e = cc e
found-pred (x ∷ preds) zero d found = (x, omega arith, some_is_some found)
  where
    some_is_some : Some (pred_of x) ≡ Some d → pred_of x ≡ d
    some_is_some e = cc e
found-pred (y ∷ preds) (suc q) d found =
    let rest : (x : Pred) × (q < length preds) × (pred_of (get_or preds q x) ≡ d) = found-pred preds q d found
    in (rest.0, omega (arith, rest.1), rest.2)

-- the predicate at a number is found by it
pub pred-found : (preds : List Pred) (q : ℕ) (x : Pred) → q < length preds
    → slice_get (map pred_of preds) q ≡ Some (pred_of (get_or preds q x))
pred-found [] q x below = absurd (omega (arith, below))
pred-found (y ∷ preds) zero x below = refl
pred-found (y ∷ preds) (suc q) x below = pred-found preds q x (omega (arith, below))

pub preds-more : (P : ℕ → PredForm → Type 0) (preds : List Pred) (i : ℕ) (x : Pred) → i < length preds
    → x ≡ get_or preds i x
    → FirstPreds P preds i → IsTrue true ↔ P i (pred_of x) → FirstPreds P preds (i + 1)
preds-more P preds i x below is before passes k d less = go (split_last k i less)
  where
    split_last : (k i : ℕ) → k < i + 1 → (k < i) ⊎ (i ≡ k)
    split_last k i less = grind arith

    go : (k < i) ⊎ (i ≡ k) → P k (pred_of (get_or preds k d))
    go (inl earlier) = before k d earlier
    go (inr e) =
        let At : Pred → Type 0 = λ y. P i (pred_of y)
        in let Place : ℕ → Type 0 = λ n. P n (pred_of (get_or preds n d))
        in subst Place e (subst At (is ∙ get_or_default preds i x d below) (passes.0 refl))

pub preds-false : (P : ℕ → PredForm → Type 0) (preds : List Pred) (i : ℕ) (x : Pred) → i < length preds
    → x ≡ get_or preds i x
    → IsTrue false ↔ P i (pred_of x) → IsTrue false ↔ EachPred (map pred_of preds) P
preds-false P preds i x below is fails =
    let At : Pred → Type 0 = λ y. P i (pred_of y)
    in (
      λ f. absurd (false≢true f),
      λ all. fails.1 (subst At (sym is) (all i (pred_of (get_or preds i x)) (pred-found preds i x below))),
    )

pub preds-true : (P : ℕ → PredForm → Type 0) (preds : List Pred) (i : ℕ) → length preds ≤ i → FirstPreds P preds i
    → IsTrue true ↔ EachPred (map pred_of preds) P
preds-true P preds i done before = (
  λ t q d found.
      let at : (x : Pred) × (q < length preds) × (pred_of (get_or preds q x) ≡ d) = found-pred preds q d found
      in let Of : PredForm → Type 0 = λ e. P q e
      in subst Of at.2 (before q at.0 (omega (arith, done, at.1))),
  λ all. refl,
)
