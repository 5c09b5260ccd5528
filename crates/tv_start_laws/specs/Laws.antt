-- Laws of copies and of the heaps below a structure, as statements.
use Rattle.std.specs.Prelude.{ℕ, ◌≡◌, ◌≢◌, ◌<◌, ◌⊎◌, ◌↔◌, false, List, [], ◌∷◌}
use Rattle.std.specs.Prelude.{map, All, AllPairs, Contains}
use Rattle.tv_kleene.specs.declared.K3.TheVariants.{No, Yes}
use Rattle.tv_model.specs.declared.program.Edge.{Edge}
use Rattle.tv_model.specs.declared.program.Mode.{Mode}
use Rattle.tv_model.specs.Heap.{Heap}
use Rattle.tv_model.specs.Program.{ProgramForm}
use Rattle.tv_model.specs.Rules.{IsHeap}
use Rattle.tv_model.specs.Run.{IsStart}
use Rattle.tv_model.specs.Step.{FairStep}
use Rattle.tv_model.specs.Valid.{IsValid}
use Rattle.tv_embedding_laws.specs.Embedding.{Embeds, IsHeapOf}
use Rattle.tv_embedding_laws.specs.LogicalStructure.{LogicalStructure, heap_structure}
use Rattle.tv_renaming_laws.specs.Renamed.{IsRenumbered}
use Rattle.tv_structure_form.specs.StructureForm.{StructureForm, IsStructure, structure_of, summary_at}
use Rattle.tv_two_valued.specs.Laws.{IsOfProgram}
use Rattle.tv_two_valued.specs.TwoValued.{IsTwoValued, heap_of}
use Rattle.tv_start_laws.specs.Copies.{IsHeapCopy}
use Rattle.tv_start_laws.specs.Starts.{FitsBelow, Exchange, exchange, KeepsStructure, images, IsSetTo}
use Rattle.tv_start_laws.specs.Starts.{fibre_sizes, IsCopied}

-- to be a copy is an equivalence, and copies make the same steps
pub record CopiesAreAlike : Type 0 where
  pub itself : (h : Heap) → IsHeapCopy h h
  pub back : (h k : Heap) → IsHeapCopy h k → IsHeapCopy k h
  pub onward : (h k l : Heap) → IsHeapCopy h k → IsHeapCopy k l → IsHeapCopy h l
  pub renumbered : (h k : Heap) → IsRenumbered h k → IsHeapCopy h k
  pub steps : (p : ProgramForm) → IsValid p → (mode : Mode) (edge : Edge) (old copy new : Heap)
      → IsHeapCopy copy old → IsHeap p copy → FairStep p mode edge old new
      → (k : Heap) × FairStep p mode edge copy k × IsHeapCopy k new

-- a heap of the program with which a copy of it may begin a run may begin one, too
abbrev pub CopiesKeepStarts : Type 0
CopiesKeepStarts =
    (p : ProgramForm) → IsValid p → (h k : Heap) → IsHeapCopy h k → IsHeap p k → IsStart p h → IsStart p k

-- the exchange of two individuals keeps a structure where it keeps its values
abbrev pub ExchangesKeepStructures : Type 0
ExchangesKeepStructures =
    (t : LogicalStructure) (u w : ℕ) → Contains t.individuals u → Contains t.individuals w
    → ((pred : ℕ) (tuple : List ℕ) → All (Contains t.individuals) tuple
    → t.value pred (map (exchange u w).there tuple) ≡ t.value pred tuple)
    → KeepsStructure t (exchange u w)

-- where exchanges keep the structure, a heap that fits below it fits below the structure with Yes at the
-- tuple, or below the one with No at the tuple and at all its images
abbrev pub BranchesLoseNoHeap : Type 0
BranchesLoseNoHeap =
    (t one none : LogicalStructure) (pred : ℕ) (tuple : List ℕ) (exchanges : List Exchange)
    → All (KeepsStructure t) exchanges → IsSetTo t pred (tuple ∷ []) Yes one
    → IsSetTo t pred (tuple ∷ images exchanges tuple) No none
    → (h : Heap) → FitsBelow h t → FitsBelow h one ⊎ FitsBelow h none

-- a heap that embeds in a structure is, once renumbered, one below the structure with as many copies of each
-- individual as the heap has individuals for it
abbrev pub FibresAreCopies : Type 0
FibresAreCopies =
    (s : StructureForm) → IsStructure s → (h : Heap) → AllPairs ◌≢◌ h.individuals → (f : ℕ → ℕ)
    → Embeds f (heap_structure h) (structure_of s)
    → IsCopied s h (fibre_sizes f h.individuals 0 s.size)

-- where a structure has no summaries, a heap of different individuals embeds in it exactly where it fits
-- below it
abbrev pub OrdinariesFit : Type 0
OrdinariesFit =
    (s : StructureForm) → IsStructure s → ((u : ℕ) → u < s.size → summary_at s u ≡ false)
    → (h : Heap) → AllPairs ◌≢◌ h.individuals
    → IsHeapOf h (structure_of s) ↔ FitsBelow h (structure_of s)

-- a heap that embeds in a two-valued structure is a copy of that structure's heap
abbrev pub LeavesAreCopies : Type 0
LeavesAreCopies =
    (p : ProgramForm) (s : StructureForm) → IsStructure s → IsTwoValued s → IsOfProgram p s
    → (h : Heap) → IsHeap p h → IsHeapOf h (structure_of s) → IsHeapCopy (heap_of s) h
