-- Runs of a program: fair steps from a start heap along the program's edges.
use Rattle.std.specs.Prelude.{ℕ, ◌≡◌, ◌⊎◌, List, [], ◌∷◌, Contains}
use Rattle.tv_model.specs.declared.program.Edge.{Edge}
use Rattle.tv_model.specs.declared.program.Mode.{Mode}
use Rattle.tv_model.specs.Heap.{Heap}
use Rattle.tv_model.specs.Program.{ProgramForm}
use Rattle.tv_model.specs.Rules.{IsHeap, IsConcrete, MeetsProgram}
use Rattle.tv_model.specs.Step.{FairStep}

-- a heap with which a run may begin
pub record IsStart (p : ProgramForm) (h : Heap) : Type 0 where
  pub is_heap : IsHeap p h
  pub concrete : IsConcrete p h
  pub meets : MeetsProgram p h

-- an edge, and the heap that a step along it leads to
pub record Stage : Type 0 where
  pub edge : Edge
  pub heap : Heap

-- each stage takes an edge of the program that leaves the node where the one before has ended, by a fair
-- step from its heap
abbrev pub GoesOn : ProgramForm → Mode → (node : ℕ) → Heap → List Stage → Type 0
GoesOn p mode node h [] = Unit {0}
GoesOn p mode node h (stage ∷ later) =
    Contains p.edges stage.edge × (stage.edge.from ≡ node) × FairStep p mode stage.edge h stage.heap
    × GoesOn p mode stage.edge.to stage.heap later

-- a run: it begins at node 0 with the start heap, and goes on by its stages
pub record IsRun (p : ProgramForm) (mode : Mode) (start : Heap) (stages : List Stage) : Type 0 where
  pub begins : IsStart p start
  pub goes_on : GoesOn p mode 0 start stages

-- stages from a heap at a node bring that heap to that node, and each later one to the target of its edge
abbrev pub BringsFrom : (node : ℕ) → Heap → List Stage → ℕ → Heap → Type 0
BringsFrom node h [] n k = (n ≡ node) × (k ≡ h)
BringsFrom node h (stage ∷ later) n k = ((n ≡ node) × (k ≡ h)) ⊎ BringsFrom stage.edge.to stage.heap later n k

-- the run from the start heap brings the heap to the node
abbrev pub Brings : (start : Heap) → List Stage → (node : ℕ) → Heap → Type 0
Brings start stages node h = BringsFrom 0 start stages node h

-- what covers the start heap at node 0, and with the old heap of each fair step the new one, covers each
-- heap that a run brings to a node
abbrev pub CoversRuns : (ℕ → Heap → Type 0) → Type 0
CoversRuns Covered =
    (p : ProgramForm) (mode : Mode) (start : Heap) (stages : List Stage) → IsRun p mode start stages
    → Covered 0 start
    → ((edge : Edge) (old new : Heap) → Contains p.edges edge → FairStep p mode edge old new
    → Covered edge.from old
    → Covered edge.to new)
    → (node : ℕ) (h : Heap) → Brings start stages node h → Covered node h
