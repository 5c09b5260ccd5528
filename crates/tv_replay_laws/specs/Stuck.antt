-- Where a trace can't go on, and why: the first of five conditions that fails.
use Rattle.std.specs.Prelude.{ℕ, ◌≡◌, ◌≢◌, ◌<◌, ◌-◌, List, [], ◌∷◌, length, take, Option, Some, None, All}
use Rattle.std.specs.Prelude.{IfSome, IsTrue, slice_get, ⊤}
use Rattle.tv_kleene.specs.declared.K3.TheVariants.{Half}
use Rattle.tv_model.specs.Program.{ProgramForm, ActionForm}
use Rattle.tv_model.specs.Truth.{Truth}
use Rattle.tv_model.specs.declared.program.Edge.{Edge}
use Rattle.tv_structure_form.specs.StructureForm.{StructureForm, value_at}
use Rattle.tv_trace.specs.declared.trace.Move.{Move}
use Rattle.tv_two_valued.specs.TwoValued.{heap_of}
use Rattle.tv_replay_laws.specs.Next.{picked_by, AreRetained, IsFreelyUpdated, IsNext}
use Rattle.tv_replay_laws.specs.declared.state.ReplayError.{ReplayError}
use Rattle.tv_replay_laws.specs.declared.state.ReplayError.TheVariants.{Stuck, Memory}
use Rattle.tv_replay_laws.specs.declared.state.Why.{Why}
use Rattle.tv_replay_laws.specs.declared.state.Why.TheVariants as why

-- where a run stands: a node, and the heap that is brought there
pub record Standing : Type 0 where
  pub node : ℕ
  pub heap : StructureForm

-- a run starts with its heap at the start node
abbrev pub start_at : StructureForm → Standing
start_at start = record { node = 0; heap = start }

-- the edge of a move, and the edge's action
pub record Taken (p : ProgramForm) (move : Move) : Type 0 where
  pub edge : Edge
  pub action : ActionForm
  pub its_edge : slice_get p.edges move.edge ≡ Some edge
  pub its_action : slice_get p.actions edge.action ≡ Some action

-- ---- the five conditions

abbrev pub Leaves : Edge → (node : ℕ) → Type 0
Leaves edge node = edge.from ≡ node

-- one individual of the heap for each picked variable
abbrev pub ArePicked : ActionForm → (chosen : List ℕ) → StructureForm → Type 0
ArePicked action chosen s = (length chosen ≡ length action.picks) × All (λ u. u < s.size) chosen

abbrev pub IsEnabled : ActionForm → (chosen : List ℕ) → StructureForm → Type 0
IsEnabled action chosen s = IfSome action.pre (Truth (heap_of s) (picked_by action.picks chosen))

-- a further individual can be added
abbrev pub HasRoom : ActionForm → StructureForm → Type 0
HasRoom action s = IsTrue action.fresh → s.size < 256

-- each freely updated predicate is given values, and none is unknown, in a structure of the new heap's size
abbrev pub AreValuesFor : ActionForm → (size : ℕ) → Option StructureForm → Type 0
AreValuesFor action size None = (q : ℕ) → ¬ IsFreelyUpdated action q
AreValuesFor action size (Some values) =
    (q : ℕ) → IsFreelyUpdated action q
    → (values.size ≡ size) × ((tuple : List ℕ) → value_at values q tuple ≢ Half)

abbrev pub AreValues : ActionForm → (chosen : List ℕ) → StructureForm → Option StructureForm → Type 0
AreValues action chosen s values =
    (kept : List ℕ) → AreRetained action (picked_by action.picks chosen) s kept
    → AreValuesFor action (length kept) values

-- ---- the first that fails

abbrev pub IsFirstFailure : {p : ProgramForm} → Standing → (move : Move) → Taken p move → Why → Type 0
IsFirstFailure at move t why.Edge = ¬ Leaves t.edge at.node
IsFirstFailure at move t why.Picks = Leaves t.edge at.node × (¬ ArePicked t.action move.picks at.heap)
IsFirstFailure at move t why.Precondition =
    Leaves t.edge at.node × ArePicked t.action move.picks at.heap × (¬ IsEnabled t.action move.picks at.heap)
IsFirstFailure at move t why.Individuals =
    Leaves t.edge at.node × ArePicked t.action move.picks at.heap × IsEnabled t.action move.picks at.heap
    × (¬ HasRoom t.action at.heap)
IsFirstFailure at move t why.Values =
    Leaves t.edge at.node × ArePicked t.action move.picks at.heap × IsEnabled t.action move.picks at.heap
    × HasRoom t.action at.heap × (¬ AreValues t.action move.picks at.heap move.values)

-- the move can be made
pub record CanMove {p : ProgramForm} (at : Standing) (move : Move) (t : Taken p move) : Type 0 where
  pub leaves : Leaves t.edge at.node
  pub picks : ArePicked t.action move.picks at.heap
  pub enabled : IsEnabled t.action move.picks at.heap
  pub room : HasRoom t.action at.heap
  pub values : AreValues t.action move.picks at.heap move.values

-- the move is made, and this is where it leads
pub record Moves (p : ProgramForm) (move : Move) (old new : Standing) : Type 0 where
  pub taken : Taken p move
  pub can : CanMove old move taken
  pub kept : List ℕ
  pub next : IsNext p taken.action move.picks move.values old.heap new.heap kept
  pub unmarked : new.heap.fresh ≡ None
  pub node : new.node ≡ taken.edge.to

-- the moves are made one after the other
abbrev pub GoesThrough : ProgramForm → Standing → List Move → List Standing → Type 0
GoesThrough p at [] [] = ⊤
GoesThrough p at [] (next ∷ later) = ⊥
GoesThrough p at (move ∷ moves) [] = ⊥
GoesThrough p at (move ∷ moves) (next ∷ later) = Moves p move at next × GoesThrough p next moves later

abbrev pub last_of : Standing → List Standing → Standing
last_of at [] = at
last_of at (next ∷ later) = last_of next later

-- the moves before the step of that number, counted from 1, can be made, and its own can't, for that reason
pub record IsStuck (p : ProgramForm) (start : StructureForm) (moves : List Move) (step : ℕ)
    (why : Why) : Type 0 where
  pub before : List Standing
  pub through : GoesThrough p (start_at start) (take (step - 1) moves) before
  pub move : Move
  pub there : slice_get moves (step - 1) ≡ Some move
  pub counted : 0 < step
  pub taken : Taken p move
  pub fails : IsFirstFailure (last_of (start_at start) before) move taken why

-- why there are no states
abbrev pub IsReplayCause : ProgramForm → StructureForm → List Move → ReplayError → Type 0
IsReplayCause p start moves (Stuck step why) = IsStuck p start moves step why
IsReplayCause p start moves Memory = ⊤
