-- Laws of compiled programs, as statements.
use Rattle.std.specs.Prelude.{ℕ, ◌≡◌, List, [], ◌∷◌, map, Some, None, All, Contains, slice_get}
use Rattle.tv_model.specs.declared.program.Edge.{Edge}
use Rattle.tv_model.specs.declared.program.Mode.{Mode}
use Rattle.tv_model.specs.Heap.{Heap}
use Rattle.tv_model.specs.Program.{ActionForm, MessageForm, ProgramForm}
use Rattle.tv_model.specs.Rules.{blank}
use Rattle.tv_model.specs.Run.{Brings, Stage, IsRun}
use Rattle.tv_model.specs.Truth.{Truth}
use Rattle.tv_model.specs.Valid.{IsValid}
use Rattle.tv_source.specs.Forms.{AssignForm, ANull, ANew, ACopy, ALoad, AStore, AClear, SAssign, SourceForm}
use Rattle.tv_source.specs.Valid.{IsSource}
use Rattle.tv_plang_laws.specs.Compiled.{compiled, node_at, IsSmall}
use Rattle.tv_plang_laws.specs.Heaps.{IsMemory, IsHeapOfMemory}
use Rattle.tv_plang_laws.specs.Memories.{Memory}
use Rattle.tv_plang_laws.specs.Positions.{Numbered}
use Rattle.tv_plang_laws.specs.Steps.{State, position, GoThrough, IsAtStart}

-- the stages have the heaps of the states, and each edge leads to the node of its state's position
abbrev pub AreStagesOf : SourceForm → List State → List Stage → Type 0
AreStagesOf p [] [] = Unit {0}
AreStagesOf p (t ∷ later) (stage ∷ stages) =
    IsHeapOfMemory p t.memory stage.heap × (stage.edge.to ≡ node_at p (position p t))
    × AreStagesOf p later stages
AreStagesOf p [] (stage ∷ stages) = ⊥
AreStagesOf p (t ∷ later) [] = ⊥

-- the heaps are those of the states, one by one
abbrev pub AreHeapsOf : SourceForm → List State → List Heap → Type 0
AreHeapsOf p [] [] = Unit {0}
AreHeapsOf p (t ∷ later) (h ∷ heaps) = IsHeapOfMemory p t.memory h × AreHeapsOf p later heaps
AreHeapsOf p [] (h ∷ heaps) = ⊥
AreHeapsOf p (t ∷ later) [] = ⊥

-- a run of the program through these heaps that brings each to the node of its state's position
pub record HasRunThrough (program : ProgramForm) (p : SourceForm) (mode : Mode) (s : State)
    (later : List State) (h : Heap) (heaps : List Heap) : Type 0 where
  pub stages : List Stage
  pub is_run : IsRun program mode h stages
  pub through : map (λ stage. stage.heap) stages ≡ heaps
  pub stage_by_stage : AreStagesOf p later stages
  pub brings : (i : ℕ) (t : State) (k : Heap) → slice_get (s ∷ later) i ≡ Some t
      → slice_get (h ∷ heaps) i ≡ Some k
      → Brings h stages (node_at p (position p t)) k

-- Whatever the program of the pointer language does from its start, each state by a step from the one before,
-- the heaps of its states are a run of the other program, in both modes, that brings each heap to the node of
-- its state's position.
abbrev pub RunsAreRunsOf : (program : ProgramForm) → SourceForm → Type 0
RunsAreRunsOf program p =
    (mode : Mode) (s : State) (later : List State) → IsAtStart p s → GoThrough s later
    → (h : Heap) (heaps : List Heap) → IsHeapOfMemory p s.memory h → AreHeapsOf p later heaps
    → HasRunThrough program p mode s later h heaps

abbrev pub SourceRunsAreRuns : Type 0
SourceRunsAreRuns = (p : SourceForm) → IsSource p → RunsAreRunsOf (compiled p) p

-- the compiled program is valid within the limits
abbrev pub CompiledIsValid : Type 0
CompiledIsValid = (p : SourceForm) → IsSource p → IsSmall (compiled p) → IsValid (compiled p)

-- for each memory of the program there is a heap
abbrev pub MemoriesHaveHeaps : Type 0
MemoriesHaveHeaps =
    (p : SourceForm) → IsSource p → IsSmall (compiled p) → (m : Memory) → IsMemory p m
    → (h : Heap) × IsHeapOfMemory p m h

-- what begins with a memory of the program goes on with such memories
abbrev pub MemoriesStay : Type 0
MemoriesStay =
    (p : SourceForm) → IsSource p → (s : State) (later : List State) → IsAtStart p s → GoThrough s later
    → IsMemory p s.memory
    → All (λ (t : State). IsMemory p t.memory) later

-- the statement goes along an arrow from the variable z
abbrev pub Dereferences : AssignForm → (z : ℕ) → Type 0
Dereferences (ANull x) z = ⊥
Dereferences (ANew x) z = ⊥
Dereferences (ACopy x y) z = ⊥
Dereferences (ALoad x y f) z = z ≡ y
Dereferences (AStore x f y) z = z ≡ x
Dereferences (AClear x f) z = z ≡ x

-- the next statement goes along an arrow from the variable z, which is null
pub record MeetsNull (s : State) (z : ℕ) : Type 0 where
  pub number : ℕ
  pub assign : AssignForm
  pub behind : List Numbered
  pub next : s.left ≡ record { number = number; statement = SAssign assign } ∷ behind
  pub dereferences : Dereferences assign z
  pub null : s.memory.variable z ≡ None

-- an edge of the program that leaves the node has a first message, which is true in the heap
pub record HasTrueMessage (program : ProgramForm) (node : ℕ) (h : Heap) : Type 0 where
  pub edge : ℕ
  pub taken : Edge
  pub action : ActionForm
  pub message : MessageForm
  pub its_edge : slice_get program.edges edge ≡ Some taken
  pub leaves : taken.from ≡ node
  pub its_action : slice_get program.actions taken.action ≡ Some action
  pub its_message : slice_get action.messages 0 ≡ Some message
  pub is_true : Truth h blank message.cond

-- wherever a program of the pointer language comes to a dereference of null, a message of the other program
-- is true
abbrev pub NullsAreToldBy : (program : ProgramForm) → SourceForm → Type 0
NullsAreToldBy program p =
    (s : State) (later : List State) → IsAtStart p s → GoThrough s later
    → (t : State) → Contains (s ∷ later) t → (z : ℕ) → MeetsNull t z
    → (h : Heap) → IsHeapOfMemory p t.memory h → HasTrueMessage program (node_at p (position p t)) h

abbrev pub NullsAreTold : Type 0
NullsAreTold = (p : SourceForm) → IsSource p → NullsAreToldBy (compiled p) p
