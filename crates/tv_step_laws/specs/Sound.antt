-- What an opening and an abstract step say of heaps of any size.
use Rattle.std.specs.Prelude.{ℕ, ◌≡◌, ◌≢◌, List, Some, Any, slice_get}
use Rattle.tv_kleene.specs.declared.K3.{K3}
use Rattle.tv_kleene.specs.declared.K3.TheVariants.{No}
use Rattle.tv_model.specs.declared.program.Edge.{Edge}
use Rattle.tv_model.specs.declared.program.Mode.{Mode}
use Rattle.tv_model.specs.Heap.{Heap}
use Rattle.tv_model.specs.Program.{ProgramForm, ActionForm, MessageForm}
use Rattle.tv_model.specs.Rules.{blank}
use Rattle.tv_model.specs.Run.{IsStart}
use Rattle.tv_model.specs.Step.{FairStep}
use Rattle.tv_model.specs.Truth.{Truth}
use Rattle.tv_embedding_laws.specs.Embedding.{IsHeapOf}
use Rattle.tv_structure_form.specs.StructureForm.{StructureForm, structure_of}
use Rattle.tv_step_laws.specs.Transfer.{IsActionOf}

-- the heap embeds in one of the structures
abbrev pub IsHeapOfSome : List StructureForm → Heap → Type 0
IsHeapOfSome ts h = Any (λ t. IsHeapOf h (structure_of t)) ts

-- a run may begin with the heap, as far as the program goes, and it embeds in the structure
pub record IsStartOf (p : ProgramForm) (s : StructureForm) (h : Heap) : Type 0 where
  pub start : IsStart p h
  pub embeds : IsHeapOf h (structure_of s)

-- the new heap of each fair step along the edge, from a heap of s, embeds in one of these
abbrev pub KeepsNewHeaps : ProgramForm → Mode → (edge : ℕ) → (s : StructureForm) → List StructureForm → Type 0
KeepsNewHeaps p mode edge s results =
    (taken : Edge) → slice_get p.edges edge ≡ Some taken → (old new : Heap) → IsStartOf p s old
    → FairStep p mode taken old new
    → IsHeapOfSome results new

-- the message of an edge, by both numbers
abbrev pub IsMessageOf : ProgramForm → (edge number : ℕ) → MessageForm → Type 0
IsMessageOf p edge number m = (action : ActionForm) × IsActionOf p edge action
    × (slice_get action.messages number ≡ Some m)

-- each message that is true in a heap of s has a value, which isn't No
abbrev pub TellsMessages : ProgramForm → (edge : ℕ) → (s : StructureForm) → List K3 → Type 0
TellsMessages p edge s values =
    (number : ℕ) (m : MessageForm) → IsMessageOf p edge number m → (h : Heap) → IsStartOf p s h
    → Truth h blank m.cond
    → (k : K3) × (slice_get values number ≡ Some k) × (k ≢ No)
