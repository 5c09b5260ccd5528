-- Linked lists of any length, and structures that stand for them.
use Rattle.std.specs.Prelude.{ℕ, ◌≤◌, ◌+◌, ◌-◌, zero, suc, true, false, [], ◌∷◌, map, None}
use Rattle.std.specs.List.{range_with_len}
use Rattle.tv_kleene.specs.declared.K3.TheVariants.{No, Half, Yes}
use Rattle.tv_model.specs.Heap.{Heap}
use Rattle.tv_embedding_laws.specs.LogicalStructure.{heap_structure}
use Rattle.tv_embedding_laws.specs.Embedding.{Embeds}
use Rattle.tv_structure_form.specs.StructureForm.{StructureForm, structure_of}

-- the heap of a list of that many cells: predicate 0 holds of the first cell, and predicate 1 of each cell
-- and the next
abbrev pub list_heap : (cells : ℕ) → Heap
list_heap cells = record {
  individuals = range_with_len 0 cells;
  extents = ((0 ∷ []) ∷ []) ∷ map (λ u. u ∷ (u + 1) ∷ []) (range_with_len 0 (cells - 1)) ∷ [];
  fresh = None;
}

-- one summary for all cells
abbrev pub one_summary : StructureForm
one_summary = record {
  size = 1;
  summaries = true ∷ [];
  planes = record { arity = 1; rows = (Half ∷ []) ∷ [] } ∷ record { arity = 2; rows = (Half ∷ []) ∷ [] } ∷ [];
  fresh = None;
}

-- the first cell, and a summary for all others
abbrev pub head_and_rest : StructureForm
head_and_rest = record {
  size = 2;
  summaries = false ∷ true ∷ [];
  planes = record { arity = 1; rows = (Yes ∷ No ∷ []) ∷ [] }
      ∷ record { arity = 2; rows = (No ∷ Half ∷ []) ∷ (No ∷ Half ∷ []) ∷ [] } ∷ [];
  fresh = None;
}

-- the first cell goes to individual 0, and each other cell to individual 1
abbrev pub head_or_rest : ℕ → ℕ
head_or_rest zero = 0
head_or_rest (suc u) = 1

-- lists of any length embed in structures of one and of two individuals
pub record ListsEmbed : Type 0 where
  pub in_one : (cells : ℕ) → 1 ≤ cells
      → Embeds (λ u. 0) (heap_structure (list_heap cells)) (structure_of one_summary)
  pub in_two : (cells : ℕ) → 2 ≤ cells
      → Embeds head_or_rest (heap_structure (list_heap cells)) (structure_of head_and_rest)
