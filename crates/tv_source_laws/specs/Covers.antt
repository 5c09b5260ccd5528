-- What is listed for a compiled program, as said of the source program.
use Rattle.std.specs.Prelude.{ℕ, ◌≡◌, List, ◌∷◌, Some, Contains, slice_get}
use Rattle.tv_model.specs.declared.program.Edge.{Edge}
use Rattle.tv_model.specs.Heap.{Heap}
use Rattle.tv_listing.specs.ListingForm.{at_node}
use Rattle.tv_listing.specs.declared.analysis.MessageLine.{MessageLine}
use Rattle.tv_source.specs.Forms.{SourceForm}
use Rattle.tv_plang_laws.specs.Compiled.{compiled, node_at}
use Rattle.tv_plang_laws.specs.Heaps.{IsMemory, IsHeapOfMemory}
use Rattle.tv_plang_laws.specs.Laws.{AreHeapsOf, MeetsNull}
use Rattle.tv_plang_laws.specs.Steps.{State, position, GoThrough, IsAtStart}
use Rattle.tv_structure_form.specs.StructureForm.{StructureForm}
use Rattle.tv_step_laws.specs.Closed.{HasLine}
use Rattle.tv_step_laws.specs.Sound.{IsHeapOfSome}

-- a run of the source program: it begins before the first statement, with a memory whose heap embeds in an
-- initial structure, and each state is a step from the one before
pub record IsSourceRun (p : SourceForm) (initial : List StructureForm) (s : State) (later : List State)
    (h : Heap) :
    Type 0 where
  pub at_start : IsAtStart p s
  pub is_memory : IsMemory p s.memory
  pub has_heap : IsHeapOfMemory p s.memory h
  pub begins : IsHeapOfSome initial h
  pub goes_through : GoThrough s later

-- there is a line for the message of the statement before which the node stands
pub record IsWarned (p : SourceForm) (lines : List MessageLine) (node : ℕ) : Type 0 where
  pub edge : ℕ
  pub taken : Edge
  pub its_edge : slice_get (compiled p).edges edge ≡ Some taken
  pub leaves : taken.from ≡ node
  pub line : HasLine lines edge 0

-- The states of each run have heaps; each of these embeds in a structure that is listed at the node of its
-- state's position; and where a state comes to a dereference of null, there is a line for its message.
pub record CoversSource (p : SourceForm) (initial : List StructureForm) (listed : List (List StructureForm))
    (lines : List MessageLine) : Type 0 where
  pub have_heaps : (s : State) (later : List State) (h : Heap) → IsSourceRun p initial s later h
      → (heaps : List Heap) × AreHeapsOf p later heaps
  pub heaps : (s : State) (later : List State) (h : Heap) → IsSourceRun p initial s later h
      → (heaps : List Heap) → AreHeapsOf p later heaps
      → (i : ℕ) (t : State) (k : Heap) → slice_get (s ∷ later) i ≡ Some t → slice_get (h ∷ heaps) i ≡ Some k
      → IsHeapOfSome (at_node listed (node_at p (position p t))) k
  pub nulls : (s : State) (later : List State) (h : Heap) → IsSourceRun p initial s later h
      → (t : State) → Contains (s ∷ later) t → (z : ℕ) → MeetsNull t z
      → IsWarned p lines (node_at p (position p t))
