-- What a search has met: heaps at nodes, each of them for all its copies.
use Rattle.std.specs.Prelude.{ℕ, ◌≡◌, ◌<◌, ◌+◌, List, Contains}
use Rattle.tv_model.specs.declared.program.Edge.{Edge}
use Rattle.tv_model.specs.Heap.{Heap}
use Rattle.tv_model.specs.Rules.{IsHeap}
use Rattle.tv_model.specs.Run.{IsStart}
use Rattle.tv_model.specs.Step.{FairStep}
use Rattle.tv_step_laws.specs.Sound.{IsHeapOfSome}
use Rattle.tv_start_laws.specs.Copies.{IsHeapCopy}
use Rattle.tv_witness_laws.specs.Witness.{Question, HasFewCells, IsAimedAt}

-- a heap at a node
pub record Place : Type 0 where
  pub node : ℕ
  pub heap : Heap

-- the heap is a copy of one that was met at the node
abbrev pub HasMet : (met : List Place) → (node : ℕ) → Heap → Type 0
HasMet met node h = (place : Place) × Contains met place × (place.node ≡ node) × IsHeapCopy place.heap h

-- each small heap with which a run may begin and that embeds in an initial structure was met at node 0, and
-- of each heap that was met the new heap of each fair step, where it is small, at the target of the edge
pub record IsExhaustive (q : Question) (met : List Place) : Type 0 where
  pub heaps : (place : Place) → Contains met place → IsHeap q.program place.heap
  pub starts : (h : Heap) → IsStart q.program h → IsHeapOfSome q.initial h → HasFewCells q.cells h
      → HasMet met 0 h
  pub steps : (place : Place) → Contains met place → (edge : Edge) → Contains q.program.edges edge
      → edge.from ≡ place.node → (new : Heap) → FairStep q.program q.mode edge place.heap new
      → HasFewCells q.cells new → HasMet met edge.to new

-- the same for some steps: what was met within k steps is listed for each k, and followed where k is below
-- the bound
pub record IsExhaustiveTo (q : Question) (within : ℕ → List Place) (bound : ℕ) : Type 0 where
  pub heaps : (k : ℕ) (place : Place) → Contains (within k) place → IsHeap q.program place.heap
  pub starts : (h : Heap) → IsStart q.program h → IsHeapOfSome q.initial h → HasFewCells q.cells h
      → HasMet (within 0) 0 h
  pub steps : (k : ℕ) → k < bound → (place : Place) → Contains (within k) place
      → (edge : Edge) → Contains q.program.edges edge → edge.from ≡ place.node
      → (new : Heap) → FairStep q.program q.mode edge place.heap new → HasFewCells q.cells new
      → HasMet (within (k + 1)) edge.to new

-- no heap that was met at the node is as it is asked for
abbrev pub MeetsNoGoal : Question → (met : List Place) → Type 0
MeetsNoGoal q met =
    (place : Place) → Contains met place → place.node ≡ q.node → ¬ IsAimedAt q.aim place.heap
