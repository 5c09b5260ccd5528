-- Memories as heaps.
use Rattle.std.specs.Prelude.{ℕ, ◌≡◌, ◌≢◌, ◌↔◌, [], ◌∷◌, Some, AllPairs, Contains}
use Rattle.tv_model.specs.Heap.{Heap, Holds}
use Rattle.tv_model.specs.Rules.{IsHeap, IsConcrete}
use Rattle.tv_source.specs.Forms.{SourceForm}
use Rattle.tv_source.specs.Valid.{IsVariableOf, IsFieldOf}
use Rattle.tv_plang_laws.specs.Memories.{Memory}
use Rattle.tv_plang_laws.specs.Compiled.{compiled, field_number}

-- Cells differ, and variables and fields lead to cells.
pub record IsMemory (p : SourceForm) (m : Memory) : Type 0 where
  pub cells_differ : AllPairs ◌≢◌ m.cells
  pub variables : (x cell : ℕ) → IsVariableOf p x → m.variable x ≡ Some cell → Contains m.cells cell
  pub fields : (f cell to : ℕ) → IsFieldOf p f → Contains m.cells cell → m.field f cell ≡ Some to
      → Contains m.cells to

-- The heap of a memory has its cells as individuals, a variable's predicate holds exactly of the cell that
-- the variable has, a field's exactly of the pairs of which the field leads from one to the other, and the
-- other predicates as they are defined.
pub record IsHeapOfMemory (p : SourceForm) (m : Memory) (h : Heap) : Type 0 where
  pub is_heap : IsHeap (compiled p) h
  pub individuals : (u : ℕ) → Contains h.individuals u ↔ Contains m.cells u
  pub variables : (x cell : ℕ) → IsVariableOf p x → Holds h x (cell ∷ []) ↔ (m.variable x ≡ Some cell)
  pub fields : (f cell to : ℕ) → IsFieldOf p f → Contains m.cells cell
      → Holds h (field_number p f) (cell ∷ to ∷ []) ↔ (m.field f cell ≡ Some to)
  pub concrete : IsConcrete (compiled p) h
