-- Structures without summaries below which all small heaps of a structure lie.
use Rattle.std.specs.Prelude.{ℕ, ◌≡◌, ◌≢◌, ◌<◌, ◌≤◌, false, List, length, None, All, AllPairs}
use Rattle.std.specs.Prelude.{Contains}
use Rattle.tv_model.specs.Heap.{Heap}
use Rattle.tv_embedding_laws.specs.Embedding.{IsHeapOf}
use Rattle.tv_structure_form.specs.StructureForm.{StructureForm, IsStructure, arities_of, structure_of}
use Rattle.tv_structure_form.specs.StructureForm.{summary_at}

-- no individual of the structure is a summary
abbrev pub HasOrdinaries : StructureForm → Type 0
HasOrdinaries s = (u : ℕ) → u < s.size → summary_at s u ≡ false

-- it has no mark, and there are few enough cells for a structure
abbrev pub CanOpen : StructureForm → (cells : ℕ) → Type 0
CanOpen s cells = (s.fresh ≡ None) × (cells ≤ 256)

-- w is t without its summaries
pub record IsCleared (t w : StructureForm) : Type 0 where
  pub is : IsStructure w
  pub size : w.size ≡ t.size
  pub planes : w.planes ≡ t.planes
  pub fresh : w.fresh ≡ t.fresh
  pub ordinary : HasOrdinaries w

-- a structure over these predicates without summaries, of at most so many individuals and without a mark
pub record IsPlainOpening (arities : List ℕ) (cells : ℕ) (w : StructureForm) : Type 0 where
  pub is : IsStructure w
  pub over : arities_of w ≡ arities
  pub unmarked : w.fresh ≡ None
  pub ordinary : HasOrdinaries w
  pub small : w.size ≤ cells

-- the heap embeds in one of the structures
abbrev pub LiesInOne : List StructureForm → Heap → Type 0
LiesInOne ws h = (w : StructureForm) × Contains ws w × IsHeapOf h (structure_of w)

-- the structures are of this kind, and each small heap that embeds in s embeds in one of them
pub record AreAllOpenings (s : StructureForm) (cells : ℕ) (ws : List StructureForm) : Type 0 where
  pub each : All (IsPlainOpening (arities_of s) cells) ws
  pub all : (h : Heap) → AllPairs ◌≢◌ h.individuals → length h.individuals ≤ cells
      → IsHeapOf h (structure_of s) → LiesInOne ws h
