-- Lemmas on heaps of a program, for the crates above: predicates by their numbers and kinds, and what holds
-- in a heap of the program.
use Rattle.std.proofs.Common.{ℕ, ◌≡◌, ◌≤◌, ◌⊎◌, List, [], length, Option, Some, None, unwrap_or, slice_get}
use Rattle.std.proofs.Common.{inl, inr, ⊎_elim, refl, subst, All, Contains, arith}
use Rattle.std.proofs.lemmas.List.Elements.{All-contains}
use Rattle.tv_model.specs.Form.{Form}
use Rattle.tv_model.specs.Heap.{Heap, Holds, IsTuple, extent}
use Rattle.tv_model.specs.Program.{ProgramForm, PredForm, KindForm, KCore, KDefined}
use Rattle.tv_model.specs.Rules.{IsHeap}
use Rattle.tv_model.proofs.Lists.{Contains-none, slice_get-past, slice_get-none}

-- a number is that of a predicate, or of none
pub pred-cases : (p : ProgramForm) (q : ℕ)
    → ((d : PredForm) × (slice_get p.preds q ≡ Some d)) ⊎ (slice_get p.preds q ≡ None)
pred-cases p q = go (slice_get p.preds q) refl
  where
    go : (o : Option PredForm) → slice_get p.preds q ≡ o
        → ((d : PredForm) × (slice_get p.preds q ≡ Some d)) ⊎ (slice_get p.preds q ≡ None)
    go None e = inr e
    go (Some d) e = inl (d, e)

-- the definition of a predicate, or that it has none
pub kind-cases : (kind : KindForm) → (kind ≡ KCore) ⊎ ((vars : List ℕ) × (body : Form) × (kind ≡ KDefined vars body))
kind-cases KCore = inl refl
kind-cases (KDefined vars body) = inr (vars, body, refl)

-- a number of no predicate holds of nothing
pub holds-nothing : (p : ProgramForm) (h : Heap) → IsHeap p h → (q : ℕ) (tuple : List ℕ) → slice_get p.preds q ≡ None
    → ¬ Holds h q tuple
holds-nothing p h is q tuple none at =
    let past : length h.extents ≤ q = omega (arith, is.one_extent_each, slice_get-none p.preds q none)
    in let Of : Option (List (List ℕ)) → Type 0 = λ o. Contains (unwrap_or o []) tuple
    in Contains-none tuple (subst Of (slice_get-past h.extents q past) at)

-- what a predicate holds of is a list of individuals of its arity
pub holds-fits : (p : ProgramForm) (h : Heap) → IsHeap p h → (q : ℕ) (d : PredForm) → slice_get p.preds q ≡ Some d
    → (tuple : List ℕ) → Holds h q tuple → IsTuple h d.arity tuple
holds-fits p h is q d found tuple at = All-contains (IsTuple h d.arity) (extent h q) tuple (is.tuples_fit q d found) at

-- whatever the number, it is a list of individuals
pub holds-individuals : (p : ProgramForm) (h : Heap) → IsHeap p h → (q : ℕ) (us : List ℕ) → Holds h q us
    → All (Contains h.individuals) us
holds-individuals p h is q us at =
    ⊎_elim
    (λ found. (holds-fits p h is q found.0 found.1 us at).1)
    (λ none. absurd (holds-nothing p h is q us none at))
    (pred-cases p q)
