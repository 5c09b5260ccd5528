-- Linked lists embed in structures of one and of two individuals.
use Rattle.std.proofs.Common.{ℕ, ◌≡◌, ◌≢◌, ◌<◌, ◌≤◌, ◌+◌, ◌-◌, ◌==◌, inl, inr, Bool, true, false, List, []}
use Rattle.std.proofs.Common.{◌∷◌, length, get_or, map, zero, suc, refl, sym, ap, ◌∙◌, arith, if◌then◌else◌}
use Rattle.std.proofs.Common.{eqb-true, true≢false}
use Rattle.std.specs.Prelude.{Contains, IsTrue}
use Rattle.std.specs.List.{range_with_len}
use Rattle.std.proofs.lemmas.List.{get_or-map, length-map}
use Rattle.tv_kleene.specs.declared.K3.{K3}
use Rattle.tv_kleene.specs.declared.K3.TheVariants.{No, Half, Yes}
use Rattle.tv_kleene.specs.Kleene.{LiesUnder}
use Rattle.tv_model.specs.Heap.{Heap, Holds}
use Rattle.tv_embedding_laws.specs.LogicalStructure.{heap_structure}
use Rattle.tv_embedding_laws.specs.Embedding.{Embeds}
use Rattle.tv_structure_form.specs.TableForm.{PlaneForm, value_in, cell, row_of, column_of}
use Rattle.tv_structure_form.specs.StructureForm.{structure_of, value_at, summary_at}
use Rattle.tv_structure_form.specs.Lists.{list_heap, one_summary, head_and_rest, head_or_rest}
use Rattle.tv_embedding_laws.proofs.EmbeddingLaws.{reads_heap}
use Rattle.tv_structure_form.proofs.Library.{Contains-range, below-range}
use Rattle.tv_structure_form.proofs.StructureLaws.{value_in-no_plane}

-- a predicate's value is No at a tuple of another length than those of which it holds
value-other_length : (h : Heap) (pred n : ℕ) → ((member : List ℕ) → Holds h pred member → length member ≡ n)
    → (tuple : List ℕ) → (length tuple ≡ n → ⊥) → (heap_structure h).value pred tuple ≡ No
value-other_length h pred n fit tuple other = ((reads_heap h).no pred tuple).1 (λ has. other (fit tuple has))

-- predicate 0 holds of the first cell alone
first_only : (cells : ℕ) (tuple : List ℕ) → Holds (list_heap cells) 0 tuple → tuple ≡ 0 ∷ []
first_only cells tuple (zero, lt, at) = sym at
first_only cells tuple (suc k, lt, at) = absurd (omega arith)

-- predicate 1 holds of pairs whose second member isn't the first cell
pairs_only : (cells : ℕ) (tuple : List ℕ) → Holds (list_heap cells) 1 tuple → (u : ℕ) × (tuple ≡ u ∷ (u + 1) ∷ [])
pairs_only cells tuple (k, lt, at) =
    let us : List ℕ = range_with_len 0 (cells - 1)
    in (
      get_or us k 0,
      sym at ∙ get_or-map (λ u. u ∷ (u + 1) ∷ []) us k 0 tuple (rw (← length-map us (λ u. u ∷ (u + 1) ∷ [])) lt),
    )

value_in-misfit : (plane : PlaneForm) (tuple : List ℕ) → (length tuple ≡ plane.arity → ⊥) → value_in plane tuple ≡ No
value_in-misfit plane tuple misfit = at (length tuple == plane.arity) refl
  where
    at : (b : Bool) → (length tuple == plane.arity) ≡ b
        → (if b then cell plane.rows (row_of tuple) (column_of tuple) else No) ≡ No
    at false e = refl
    at true e = absurd (misfit (eqb-true _ _ e))

-- two values that are No
both_no : (x y : K3) → x ≡ No → y ≡ No → LiesUnder x y
both_no x y a b = inl (a ∙ sym b)

one_long : (cells : ℕ) (member : List ℕ) → Holds (list_heap cells) 0 member → length member ≡ 1
one_long cells member has = ap length (first_only cells member has)

two_long : (cells : ℕ) (member : List ℕ) → Holds (list_heap cells) 1 member → length member ≡ 2
two_long cells member has = ap length (pairs_only cells member has).1

-- where the tuple's length isn't the predicate's arity, both values are No
misfit-under : (cells pred n : ℕ) (plane : PlaneForm) (tuple image : List ℕ)
    → ((member : List ℕ) → Holds (list_heap cells) pred member → length member ≡ n)
    → plane.arity ≡ n → (length tuple ≡ n → ⊥) → (length image ≡ n → ⊥)
    → LiesUnder ((heap_structure (list_heap cells)).value pred tuple) (value_in plane image)
misfit-under cells pred n plane tuple image fit arity other other_image =
    both_no _ _ (value-other_length (list_heap cells) pred n fit tuple other)
    (value_in-misfit plane image (λ e. other_image (e ∙ arity)))

not_a_summary : false ≡ true → ⊥
not_a_summary e = true≢false (sym e)

no_edge_back : (cells u : ℕ) → (heap_structure (list_heap cells)).value 1 (u ∷ 0 ∷ []) ≡ No
no_edge_back cells u =
    ((reads_heap (list_heap cells)).no 1 (u ∷ 0 ∷ [])).1
    (λ has.
    let edge : (x : ℕ) × (u ∷ 0 ∷ [] ≡ x ∷ (x + 1) ∷ []) = pairs_only cells (u ∷ 0 ∷ []) has
    in let e : 0 ≡ edge.0 + 1 = ap (λ xs. get_or xs 1 0) edge.1
    in omega arith)

-- ---- one summary for all cells

in_one-values : (cells pred : ℕ) (tuple : List ℕ)
    → LiesUnder ((heap_structure (list_heap cells)).value pred tuple) (value_at one_summary pred (map (λ u. 0) tuple))
in_one-values cells zero [] =
    misfit-under cells 0 1 (record { arity = 1; rows = (Half ∷ []) ∷ [] }) [] [] (one_long cells) refl (λ e. omega arith) (λ e. omega arith)
in_one-values cells zero (u ∷ []) = inr refl
in_one-values cells zero (u ∷ w ∷ others) =
    misfit-under cells 0 1 (record { arity = 1; rows = (Half ∷ []) ∷ [] }) (u ∷ w ∷ others) (0 ∷ 0 ∷ map (λ x. 0) others)
    (one_long cells) refl (λ e. omega arith) (λ e. omega arith)
in_one-values cells (suc zero) [] =
    misfit-under cells 1 2 (record { arity = 2; rows = (Half ∷ []) ∷ [] }) [] [] (two_long cells) refl (λ e. omega arith) (λ e. omega arith)
in_one-values cells (suc zero) (u ∷ []) =
    misfit-under cells 1 2 (record { arity = 2; rows = (Half ∷ []) ∷ [] }) (u ∷ []) (0 ∷ []) (two_long cells) refl (λ e. omega arith) (λ e. omega arith)
in_one-values cells (suc zero) (u ∷ w ∷ []) = inr refl
in_one-values cells (suc zero) (u ∷ w ∷ v ∷ others) =
    misfit-under cells 1 2 (record { arity = 2; rows = (Half ∷ []) ∷ [] }) (u ∷ w ∷ v ∷ others) (0 ∷ 0 ∷ 0 ∷ map (λ x. 0) others)
    (two_long cells) refl (λ e. omega arith) (λ e. omega arith)
in_one-values cells (suc (suc pred)) tuple = inl (sym (value_in-no_plane (map (λ u. 0) tuple)))

pub in_one : (cells : ℕ) → 1 ≤ cells → Embeds (λ u. 0) (heap_structure (list_heap cells)) (structure_of one_summary)
in_one cells some = record {
  into = λ u h. Contains-range 1 0 (omega arith);
  onto = λ w h. (0, Contains-range cells 0 (omega arith), (let lt : w < 1 = below-range 1 w h in omega arith));
  values = λ pred p tuple all. in_one-values cells pred tuple;
  summaries = λ u h sm. absurd (not_a_summary sm);
  several = λ u w hu hw differ same. refl;
}

-- ---- the first cell, and a summary for all others

abbrev head_plane : PlaneForm
head_plane = record { arity = 1; rows = (Yes ∷ No ∷ []) ∷ [] }

abbrev rest_plane : PlaneForm
rest_plane = record { arity = 2; rows = (No ∷ Half ∷ []) ∷ (No ∷ Half ∷ []) ∷ [] }

in_two-values : (cells pred : ℕ) (tuple : List ℕ)
    → LiesUnder ((heap_structure (list_heap cells)).value pred tuple) (value_at head_and_rest pred (map head_or_rest tuple))
in_two-values cells zero [] =
    misfit-under cells 0 1 head_plane [] [] (one_long cells) refl (λ e. omega arith) (λ e. omega arith)
in_two-values cells zero (zero ∷ []) = inl (((reads_heap (list_heap cells)).yes 0 (0 ∷ [])).1 (0, omega arith, refl))
in_two-values cells zero (suc u ∷ []) =
    inl (((reads_heap (list_heap cells)).no 0 (suc u ∷ [])).1
    (λ has. let e : suc u ≡ 0 = ap (λ xs. get_or xs 0 0) (first_only cells (suc u ∷ []) has) in omega arith))
in_two-values cells zero (u ∷ w ∷ others) =
    misfit-under cells 0 1 head_plane (u ∷ w ∷ others) (head_or_rest u ∷ head_or_rest w ∷ map head_or_rest others)
    (one_long cells) refl (λ e. omega arith) (λ e. omega arith)
in_two-values cells (suc zero) [] =
    misfit-under cells 1 2 rest_plane [] [] (two_long cells) refl (λ e. omega arith) (λ e. omega arith)
in_two-values cells (suc zero) (u ∷ []) =
    misfit-under cells 1 2 rest_plane (u ∷ []) (head_or_rest u ∷ []) (two_long cells) refl (λ e. omega arith) (λ e. omega arith)
in_two-values cells (suc zero) (zero ∷ zero ∷ []) = inl (no_edge_back cells 0)
in_two-values cells (suc zero) (suc u ∷ zero ∷ []) = inl (no_edge_back cells (suc u))
in_two-values cells (suc zero) (zero ∷ suc w ∷ []) = inr refl
in_two-values cells (suc zero) (suc u ∷ suc w ∷ []) = inr refl
in_two-values cells (suc zero) (u ∷ w ∷ v ∷ others) =
    misfit-under cells 1 2 rest_plane (u ∷ w ∷ v ∷ others)
    (head_or_rest u ∷ head_or_rest w ∷ head_or_rest v ∷ map head_or_rest others)
    (two_long cells) refl (λ e. omega arith) (λ e. omega arith)
in_two-values cells (suc (suc pred)) tuple = inl (sym (value_in-no_plane (map head_or_rest tuple)))

into_two : (u : ℕ) → Contains (range_with_len 0 2) (head_or_rest u)
into_two zero = Contains-range 2 0 (omega arith)
into_two (suc u) = Contains-range 2 1 (omega arith)

onto_two : (cells w : ℕ) → 2 ≤ cells → w < 2 → (u : ℕ) × Contains (range_with_len 0 cells) u × (head_or_rest u ≡ w)
onto_two cells zero some lt = (0, Contains-range cells 0 (omega arith), refl)
onto_two cells (suc zero) some lt = (1, Contains-range cells 1 (omega arith), refl)
onto_two cells (suc (suc w)) some lt = absurd (omega arith)

several_rest : (u w : ℕ) → u ≢ w → head_or_rest u ≡ head_or_rest w → IsTrue (summary_at head_and_rest (head_or_rest u))
several_rest zero zero differ same = absurd (differ refl)
several_rest zero (suc w) differ same = absurd (omega arith)
several_rest (suc u) w differ same = refl

pub in_two : (cells : ℕ) → 2 ≤ cells → Embeds head_or_rest (heap_structure (list_heap cells)) (structure_of head_and_rest)
in_two cells some = record {
  into = λ u h. into_two u;
  onto = λ w h. onto_two cells w some (below-range 2 w h);
  values = λ pred p tuple all. in_two-values cells pred tuple;
  summaries = λ u h sm. absurd (not_a_summary sm);
  several = λ u w hu hw differ same. several_rest u w differ same;
}
