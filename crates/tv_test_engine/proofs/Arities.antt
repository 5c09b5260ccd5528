-- The arities of the predicates of the rows.
use Rattle.std.proofs.Common.{ℕ, ◌≡◌, ◌≤◌, List, [], ◌∷◌, get_or, map, sym, subst, arith}
use Rattle.std.specs.Prelude.{All}
use Rattle.std.proofs.lemmas.List.{get_or-map}
use Rattle.std.proofs.lemmas.List.Elements.{All-nil, All-cons}
use Rattle.std.proofs.lemmas.List.{length-map}
use Rattle.tv_model.specs.declared.program.Pred.{Pred}

-- predicates have at most two arguments where their arities are at most two
small : (preds : List Pred) (arities : List ℕ) → map (λ pred. pred.arity) preds ≡ arities → All (λ n. n ≤ 2) arities
    → All (λ pred. pred.arity ≤ 2) preds
small preds arities is all k d lt =
    let Small : List ℕ → Type 0 = λ xs. get_or xs k 0 ≤ 2
    in let Count : List ℕ → Type 0 = λ xs. All (λ n. n ≤ 2) xs
    in let each : All (λ n. n ≤ 2) (map (λ pred. pred.arity) preds) = subst Count (sym is) all
    in rw (← get_or-map (λ pred. pred.arity) preds k d 0 lt) (each k 0 (rw (length-map preds (λ pred. pred.arity)) lt))

more : (n : ℕ) (arities : List ℕ) → n ≤ 2 → All (λ a. a ≤ 2) arities → All (λ a. a ≤ 2) (n ∷ arities)
more n arities le all = All-cons (λ a. a ≤ 2) n arities le all

none : All (λ a. a ≤ 2) []
none = All-nil (λ a. a ≤ 2)

pub small_five : (preds : List Pred) → map (λ pred. pred.arity) preds ≡ 0 ∷ 1 ∷ 1 ∷ 1 ∷ 2 ∷ []
    → All (λ pred. pred.arity ≤ 2) preds
small_five preds is =
    small preds (0 ∷ 1 ∷ 1 ∷ 1 ∷ 2 ∷ []) is
    (more 0 (1 ∷ 1 ∷ 1 ∷ 2 ∷ []) (omega arith) (more 1 (1 ∷ 1 ∷ 2 ∷ []) (omega arith) (more 1 (1 ∷ 2 ∷ []) (omega arith)
    (more 1 (2 ∷ []) (omega arith) (more 2 [] (omega arith) none)))))

pub small_six : (preds : List Pred) → map (λ pred. pred.arity) preds ≡ 1 ∷ 1 ∷ 1 ∷ 1 ∷ 1 ∷ 1 ∷ []
    → All (λ pred. pred.arity ≤ 2) preds
small_six preds is =
    small preds (1 ∷ 1 ∷ 1 ∷ 1 ∷ 1 ∷ 1 ∷ []) is
    (more 1 (1 ∷ 1 ∷ 1 ∷ 1 ∷ 1 ∷ []) (omega arith) (more 1 (1 ∷ 1 ∷ 1 ∷ 1 ∷ []) (omega arith)
    (more 1 (1 ∷ 1 ∷ 1 ∷ []) (omega arith) (more 1 (1 ∷ 1 ∷ []) (omega arith) (more 1 (1 ∷ []) (omega arith)
    (more 1 [] (omega arith) none))))))

pub small_four : (preds : List Pred) → map (λ pred. pred.arity) preds ≡ 1 ∷ 1 ∷ 1 ∷ 1 ∷ []
    → All (λ pred. pred.arity ≤ 2) preds
small_four preds is =
    small preds (1 ∷ 1 ∷ 1 ∷ 1 ∷ []) is
    (more 1 (1 ∷ 1 ∷ 1 ∷ []) (omega arith) (more 1 (1 ∷ 1 ∷ []) (omega arith) (more 1 (1 ∷ []) (omega arith)
    (more 1 [] (omega arith) none))))
