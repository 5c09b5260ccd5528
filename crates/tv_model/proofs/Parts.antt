-- Lemmas on parts of programs, for the crates above: lists of predicates, of edges and of picked variables.
use Rattle.std.proofs.Common.{ℕ, ◌≡◌, ◌<◌, ◌≤◌, List, [], ◌∷◌, get_or, length, map, not, eqb, All, Contains}
use Rattle.std.proofs.Common.{⊎_elim, refl, sym, ap, subst, arith, ne_eqb}
use Rattle.std.specs.List.{between}
use Rattle.std.proofs.lemmas.Bool.{cases_eq}
use Rattle.std.proofs.lemmas.Slice.{first_rest}
use Rattle.tv_model.specs.declared.program.Edge.{Edge}
use Rattle.tv_model.specs.declared.program.Pred.{Pred}
use Rattle.tv_model.specs.declared.formula.Var.{Var}
use Rattle.tv_model.specs.Program.{ProgramForm, PredForm, picks_of, pred_of}
use Rattle.tv_model.specs.Valid.{IsEdge, IsValid, first_occurrences, without}
use Rattle.tv_model.proofs.Lists.{Contains-cases, Contains-filter, Contains-here, Contains-there}

-- the names and the arities of predicates
pub names-same : (preds : List Pred) → map (λ (d : PredForm). d.name) (map pred_of preds) ≡ map (λ (pred : Pred). pred.name) preds
names-same [] = refl
names-same (pred ∷ preds) = ap (λ ns. pred.name ∷ ns) (names-same preds)

pub arities-same : (preds : List Pred) → map (λ d. d.arity) (map pred_of preds) ≡ map (λ pred. pred.arity) preds
arities-same [] = refl
arities-same (pred ∷ preds) = ap (λ ns. pred.arity ∷ ns) (arities-same preds)

-- a valid program has a node
pub start-node : (p : ProgramForm) → IsValid p → 0 < length p.nodes
start-node p valid = first p.edges valid.edges valid.some_edge
  where
    first : (edges : List Edge) → All (IsEdge p) edges → 0 < length edges → 0 < length p.nodes
    first [] all some = absurd (omega (arith, some))
    first (e ∷ edges) all some = omega (arith, (all 0 e (omega arith)).0)

-- what stands in a list is a first occurrence
pub first-occurs : (xs : List ℕ) (x : ℕ) → Contains xs x → Contains (first_occurrences xs) x
first-occurs [] x at = at
first-occurs (v ∷ xs) x at =
    ⊎_elim
    (λ e. let Of : ℕ → Type 0 = λ w. Contains (v ∷ without v (first_occurrences xs)) w
    in subst Of e (Contains-here v (without v (first_occurrences xs))))
    (λ ne. ⊎_elim (λ e. absurd (ne e))
    (λ there. Contains-there v x (without v (first_occurrences xs))
    (Contains-filter (λ w. not (eqb w v)) (first_occurrences xs) x (first-occurs xs x there)
    (ap not (ne_eqb x v (λ e. ne (sym e))))))
    (Contains-cases v x xs at))
    (cases_eq v x)

-- the picked variables: none, or a first one and the others
pub no-picks : (left : List Var) → length left < 1 → picks_of left ≡ []
no-picks [] few = refl
no-picks (v ∷ left) few = absurd (omega (arith, few))

pub first-pick : (left : List Var) (d : Var) → 1 ≤ length left
    → picks_of left ≡ (get_or left 0 d).0 ∷ picks_of (between 1 (length left) left)
first-pick left d some = ap picks_of (first_rest left d (omega (arith, some)))
