-- Heaps as two-valued structures, and the heap that a structure stands for (Sagiv, Reps and Wilhelm, TOPLAS
-- 24(3), 2002, section 2).
use Rattle.std.specs.Prelude.{ℕ, zero, suc, ◌≡◌, ◌≢◌, ◌<◌, false, List, [], ◌∷◌, map}
use Rattle.std.specs.List.{range_with_len, flat_map}
use Rattle.std.specs.Prelude.{filter}
use Rattle.tv_kleene.specs.declared.K3.TheVariants.{Half}
pub use Rattle.tv_kleene.specs.Kleene.{is_yes}
use Rattle.tv_model.specs.Heap.{Heap}
use Rattle.tv_structure_form.specs.StructureForm.{StructureForm, value_at, summary_at, arities_of}

-- no value is unknown, and no individual is a summary
pub record IsTwoValued (s : StructureForm) : Type 0 where
  pub values : (pred : ℕ) (tuple : List ℕ) → value_at s pred tuple ≢ Half
  pub summaries : (u : ℕ) → u < s.size → summary_at s u ≡ false

-- all lists of n elements of the list, in lexicographic order
abbrev pub lists_of : List ℕ → (n : ℕ) → List (List ℕ)
lists_of us zero = [] ∷ []
lists_of us (suc n) = flat_map (λ u. map (λ tuple. u ∷ tuple) (lists_of us n)) us

-- the tuples of individuals at which the predicate is Yes
abbrev pub yes_tuples : StructureForm → (pred arity : ℕ) → List (List ℕ)
yes_tuples s pred arity =
    filter (λ tuple. is_yes (value_at s pred tuple)) (lists_of (range_with_len 0 s.size) arity)

-- the same for predicates of these arities, the first of which has the number pred
abbrev pub extents_from : StructureForm → (pred : ℕ) → (arities : List ℕ) → List (List (List ℕ))
extents_from s pred [] = []
extents_from s pred (arity ∷ arities) = yes_tuples s pred arity ∷ extents_from s (suc pred) arities

-- the heap over the same individuals in which each predicate holds where it is Yes
abbrev pub heap_of : StructureForm → Heap
heap_of s = record {
  individuals = range_with_len 0 s.size;
  extents = extents_from s 0 (arities_of s);
  fresh = s.fresh;
}
