-- Closed listings: a step from a listed structure leads to listed ones.
use Rattle.std.specs.Prelude.{ℕ, ◌≡◌, ◌≢◌, ◌⊎◌, List, Some, All, Any, Contains, slice_get}
use Rattle.tv_kleene.specs.declared.K3.{K3}
use Rattle.tv_kleene.specs.declared.K3.TheVariants.{No}
use Rattle.tv_model.specs.declared.program.Edge.{Edge}
use Rattle.tv_model.specs.declared.program.Mode.{Mode}
use Rattle.tv_model.specs.Heap.{Heap}
use Rattle.tv_model.specs.Program.{ProgramForm, MessageForm}
use Rattle.tv_model.specs.Rules.{blank}
use Rattle.tv_model.specs.Run.{Stage, IsRun, Brings}
use Rattle.tv_model.specs.Truth.{Truth}
use Rattle.tv_embedding_laws.specs.Embedding.{IsEmbedded}
use Rattle.tv_listing.specs.ListingForm.{at_node}
use Rattle.tv_structure_form.specs.StructureForm.{StructureForm, structure_of}
use Rattle.tv_listing.specs.declared.analysis.MessageLine.{MessageLine}
use Rattle.tv_step_laws.specs.Sound.{IsHeapOfSome, IsMessageOf}
use Rattle.tv_step_laws.specs.Transfer.{IsOpening, HasNoOpening, AreResults, IsMessageValue}

-- the structure embeds in one of these
abbrev pub IsCovered : List StructureForm → StructureForm → Type 0
IsCovered ts s = Any (λ t. IsEmbedded (structure_of s) (structure_of t)) ts

-- there is a line for the message of the edge
abbrev pub HasLine : List MessageLine → (edge number : ℕ) → Type 0
HasLine lines edge number = Any (λ line. (line.edge ≡ edge) × (line.number ≡ number)) lines

-- the structure has no opening, or one that embeds in one of these
abbrev pub IsOpened : ProgramForm → List StructureForm → StructureForm → Type 0
IsOpened p ts s = HasNoOpening p s ⊎ ((t : StructureForm) × IsOpening p s t × IsCovered ts t)

-- the results of a listed structure along the edge embed in structures that are listed at its target, and
-- each message whose value isn't No has a line
pub record IsFollowed (p : ProgramForm) (mode : Mode) (edge : ℕ) (s : StructureForm)
    (targets : List StructureForm)
    (lines : List MessageLine) : Type 0 where
  pub results : (ts : List StructureForm) × AreResults p mode edge s ts × All (IsCovered targets) ts
  pub messages : (number : ℕ) (k : K3) → IsMessageValue p edge s number k → k ≢ No → HasLine lines edge number

-- the listing is closed: openings of initial structures are covered at node 0, and the steps of listed
-- structures are followed
pub record IsClosed (p : ProgramForm) (mode : Mode) (initial : List StructureForm)
    (listed : List (List StructureForm))
    (lines : List MessageLine) : Type 0 where
  pub opened : All (IsOpened p (at_node listed 0)) initial
  pub followed : (edge : ℕ) (taken : Edge) → slice_get p.edges edge ≡ Some taken
      → (s : StructureForm) → Contains (at_node listed taken.from) s
      → IsFollowed p mode edge s (at_node listed taken.to) lines

-- each heap, of any size, that a run brings to a node embeds in a structure that is listed there, where the
-- run's start heap embeds in an initial structure; and a message without a line is false in each heap that a
-- run brings to its edge's source
pub record CoversRuns (p : ProgramForm) (mode : Mode) (initial : List StructureForm)
    (listed : List (List StructureForm))
    (lines : List MessageLine) : Type 0 where
  pub heaps : (start : Heap) (stages : List Stage) → IsRun p mode start stages → IsHeapOfSome initial start
      → (node : ℕ) (h : Heap) → Brings start stages node h → IsHeapOfSome (at_node listed node) h
  pub messages : (start : Heap) (stages : List Stage) → IsRun p mode start stages → IsHeapOfSome initial start
      → (edge : ℕ) (taken : Edge) → slice_get p.edges edge ≡ Some taken
      → (number : ℕ) (m : MessageForm) → IsMessageOf p edge number m → ¬ HasLine lines edge number
      → (h : Heap) → Brings start stages taken.from h → ¬ Truth h blank m.cond
