-- All heaps of few cells that belong to a structure, up to copies.
use Rattle.std.specs.Prelude.{ℕ, ◌≤◌, List, length, All, Contains}
use Rattle.tv_model.specs.Heap.{Heap}
use Rattle.tv_model.specs.Program.{ProgramForm}
use Rattle.tv_model.specs.Run.{IsStart}
use Rattle.tv_embedding_laws.specs.Embedding.{IsHeapOf}
use Rattle.tv_structure_form.specs.StructureForm.{StructureForm, IsStructure, structure_of}
use Rattle.tv_two_valued.specs.Laws.{IsOfProgram}
use Rattle.tv_two_valued.specs.TwoValued.{IsTwoValued, heap_of}
use Rattle.tv_start_laws.specs.Copies.{IsHeapCopy}

-- t stands for a heap that has at most so many individuals, with which a run may begin and that embeds in s
pub record IsHeapIn (p : ProgramForm) (cells : ℕ) (s t : StructureForm) : Type 0 where
  pub is : IsStructure t
  pub over : IsOfProgram p t
  pub two_valued : IsTwoValued t
  pub small : t.size ≤ cells
  pub start : IsStart p (heap_of t)
  pub lies : IsHeapOf (heap_of t) (structure_of s)

-- the structures stand for such heaps, and each such heap is a copy of one of them
pub record AreHeapsIn (p : ProgramForm) (cells : ℕ) (s : StructureForm)
    (heaps : List StructureForm) : Type 0 where
  pub each : All (IsHeapIn p cells s) heaps
  pub all : (h : Heap) → IsStart p h → length h.individuals ≤ cells → IsHeapOf h (structure_of s)
      → (t : StructureForm) × Contains heaps t × IsHeapCopy (heap_of t) h
