-- Lemmas on runs, for the crates above: from one closed cover to all heaps that a run brings to a node.
use Rattle.std.proofs.Common.{ℕ, ◌≡◌, List, [], ◌∷◌, inl, inr, sym, subst}
use Rattle.std.specs.Prelude.{Contains}
use Rattle.tv_model.specs.declared.program.Edge.{Edge}
use Rattle.tv_model.specs.declared.program.Mode.{Mode}
use Rattle.tv_model.specs.Heap.{Heap}
use Rattle.tv_model.specs.Program.{ProgramForm}
use Rattle.tv_model.specs.Run.{Stage, GoesOn, BringsFrom}
use Rattle.tv_model.specs.Step.{FairStep}

-- what holds of a heap at a node holds of the same heap at the same node
covered-same : (Covered : ℕ → Heap → Type 0) (node n : ℕ) (h k : Heap) → n ≡ node → k ≡ h → Covered node h → Covered n k
covered-same Covered node n h k same_node same_heap start =
    let AtNode : ℕ → Type 0 = λ m. Covered m k
    in subst AtNode (sym same_node) (subst (Covered node) (sym same_heap) start)

-- if the first heap is covered at the first node, and each fair step from a covered heap at the source of
-- its edge leads to one that is covered at its target, each heap that stages bring to a node is covered there
pub brought-covered : (p : ProgramForm) (mode : Mode) (Covered : ℕ → Heap → Type 0)
    → ((edge : Edge) (old new : Heap) → Contains p.edges edge → FairStep p mode edge old new → Covered edge.from old
    → Covered edge.to new)
    → (node : ℕ) (h : Heap) (stages : List Stage) → GoesOn p mode node h stages → Covered node h
    → (n : ℕ) (k : Heap) → BringsFrom node h stages n k → Covered n k
brought-covered p mode Covered closed node h [] on start n k here = covered-same Covered node n h k here.0 here.1 start
brought-covered p mode Covered closed node h (stage ∷ later) on start n k (inl here) =
    covered-same Covered node n h k here.0 here.1 start
brought-covered p mode Covered closed node h (stage ∷ later) on start n k (inr there) =
    let AtNode : ℕ → Type 0 = λ m. Covered m h
    in brought-covered p mode Covered closed stage.edge.to stage.heap later on.3
    (closed stage.edge h stage.heap on.0 on.2 (subst AtNode (sym on.1) start))
    n k there
