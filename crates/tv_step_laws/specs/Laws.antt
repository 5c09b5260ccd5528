-- Laws of abstract steps, as statements.
use Rattle.std.specs.Prelude.{ℕ, ◌≡◌, List}
use Rattle.tv_kleene.specs.declared.K3.{K3}
use Rattle.tv_model.specs.declared.program.Mode.{Mode}
use Rattle.tv_model.specs.Heap.{Heap}
use Rattle.tv_model.specs.Program.{ProgramForm}
use Rattle.tv_model.specs.Valid.{IsValid}
use Rattle.tv_embedding_laws.specs.Embedding.{IsHeapOf}
use Rattle.tv_structure_form.specs.StructureForm.{StructureForm, structure_of}
use Rattle.tv_listing.specs.declared.analysis.MessageLine.{MessageLine}
use Rattle.tv_step_laws.specs.Transfer.{AreResults, AreMessageValues, IsOpening, HasNoOpening}
use Rattle.tv_step_laws.specs.Closed.{IsClosed, CoversRuns}
use Rattle.tv_step_laws.specs.Sound.{IsStartOf, KeepsNewHeaps, TellsMessages}

-- a structure has one opening at most, one list of results along an edge, and one value for each message
pub record IsExact (p : ProgramForm) (s : StructureForm) : Type 0 where
  pub openings : (t u : StructureForm) → IsOpening p s t → IsOpening p s u → t ≡ u
  pub results : (mode : Mode) (edge : ℕ) (ts us : List StructureForm) → AreResults p mode edge s ts
      → AreResults p mode edge s us → ts ≡ us
  pub values : (edge : ℕ) (ks ls : List K3) → AreMessageValues p edge s ks → AreMessageValues p edge s ls
      → ks ≡ ls

abbrev pub StepsAreExact : Type 0
StepsAreExact = (p : ProgramForm) → IsValid p → (s : StructureForm) → IsExact p s

-- openings lose no heap: each that embeds in s, and with which a run may begin, embeds in the opening, and
-- where there is no opening there is none
pub record KeepsStarts (p : ProgramForm) (s : StructureForm) : Type 0 where
  pub some : (h : Heap) → IsStartOf p s h → ¬ HasNoOpening p s
  pub kept : (t : StructureForm) → IsOpening p s t → (h : Heap) → IsStartOf p s h
      → IsHeapOf h (structure_of t)

abbrev pub OpeningsLoseNoHeap : Type 0
OpeningsLoseNoHeap = (p : ProgramForm) → IsValid p → (s : StructureForm) → KeepsStarts p s

-- steps lose no heap
pub record LosesNoHeap (p : ProgramForm) (mode : Mode) (edge : ℕ) (s : StructureForm) : Type 0 where
  pub steps : (results : List StructureForm) → AreResults p mode edge s results
      → KeepsNewHeaps p mode edge s results
  pub messages : (values : List K3) → AreMessageValues p edge s values → TellsMessages p edge s values

abbrev pub StepsLoseNoHeap : Type 0
StepsLoseNoHeap =
    (p : ProgramForm) → IsValid p → (mode : Mode) (edge : ℕ) (s : StructureForm) → LosesNoHeap p mode edge s

-- a closed listing covers all runs
abbrev pub ClosedListingsCoverRuns : Type 0
ClosedListingsCoverRuns =
    (p : ProgramForm) (mode : Mode) (initial : List StructureForm) (listed : List (List StructureForm))
    (lines : List MessageLine)
    → IsValid p → IsClosed p mode initial listed lines → CoversRuns p mode initial listed lines
