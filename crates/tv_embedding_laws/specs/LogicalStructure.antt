-- Three-valued logical structures of any size (Sagiv, Reps and Wilhelm 2002, section 4).
use Rattle.std.specs.Prelude.{ℕ, ◌≡◌, ◌↔◌, Bool, false, List, Option, if◌then◌else◌, nat_eq}
use Rattle.std.specs.List.{list_any}
use Rattle.std.specs.Cmp.Lexicographic.{pointwise}
use Rattle.tv_kleene.specs.declared.K3.{K3}
use Rattle.tv_kleene.specs.declared.K3.TheVariants.{No, Yes}
use Rattle.tv_model.specs.Heap.{Heap, Holds, extent}

-- a structure: its individuals, the value of each predicate, by number, at each tuple of individuals,
-- which individuals may stand for several cells, and the individual that a step has just added. It knows
-- no arities: that a value is No at a tuple of another length is so of tables and of heaps of a program
pub record LogicalStructure : Type 0 where
  pub individuals : List ℕ
  pub value : (pred : ℕ) → (tuple : List ℕ) → K3
  pub is_summary : ℕ → Bool
  pub fresh : Option ℕ

-- whether the predicate holds of the tuple in the heap
abbrev pub holds : Heap → ℕ → List ℕ → Bool
holds h pred tuple = list_any (λ member. pointwise nat_eq member tuple) (extent h pred)

-- a heap read as a structure: Yes where a predicate holds, No where it doesn't, and no summaries
abbrev pub heap_structure : Heap → LogicalStructure
heap_structure h = record {
  individuals = h.individuals;
  value = λ pred tuple. if holds h pred tuple then Yes else No;
  is_summary = λ u. false;
  fresh = h.fresh;
}

-- what a heap, read as a structure, says of a tuple is what holds of it
pub record ReadsHeap (h : Heap) : Type 0 where
  pub yes : (pred : ℕ) (tuple : List ℕ) → (heap_structure h).value pred tuple ≡ Yes ↔ Holds h pred tuple
  pub no : (pred : ℕ) (tuple : List ℕ) → (heap_structure h).value pred tuple ≡ No ↔ (¬ Holds h pred tuple)
