-- What an action of a program makes of a heap under individuals for its picked variables.
use Rattle.std.specs.Prelude.{ℕ, ◌≡◌, ◌<◌, List, length, map, Option, None, Contains, IfSome, ⊤}
use Rattle.tv_eval.specs.AssignmentForm.{assignment_of, individual_for}
use Rattle.tv_eval.specs.ScratchForm.{ScratchForm, IsMadeFor}
use Rattle.tv_model.specs.Program.{ProgramForm, ActionForm, action_of, program_of}
use Rattle.tv_model.specs.Step.{StepsThrough}
use Rattle.tv_model.specs.Truth.{Assignment, Truth}
use Rattle.tv_renaming_laws.specs.Renamed.{renamed}
use Rattle.tv_replay_laws.specs.Judged.{AgreesAt, IsFirst}
use Rattle.tv_replay_laws.specs.Next.{AreRetained, HasGiven, middle_of, kept_individual, picked_by}
use Rattle.tv_replay_laws.specs.Stuck.{ArePicked, AreValues, AreValuesFor, HasRoom, IsEnabled}
use Rattle.tv_replay_laws.specs.declared.state.Why.{Why}
use Rattle.tv_replay_laws.specs.declared.state.Why.TheVariants as why
use Rattle.tv_structure_form.specs.StructureForm.{StructureForm, IsOver, IsStructure, arities_of}
use Rattle.tv_trace.specs.declared.trace.Move.{Move}
use Rattle.tv_tvs.specs.Targets.{IsRead}
use Rattle.tv_two_valued.specs.TwoValued.{IsTwoValued, heap_of}
use Rattle.tv_update.specs.Redefined.{AreAllDefined}
use Rattle.tv_update.specs.Update.{action_at}
use Rattle.tv_replay_step.specs.Picked.{PutsPicked}
use Rattle.tv_replay_step.specs.Ready.{CanAct, IsHeapFor}
use Rattle.tv_replay_step.specs.Stepped.{broken_by}
use Rattle.tv_replay_step.specs.declared.moved.Halt.{Halt}
use Rattle.tv_replay_step.specs.declared.moved.Halt.TheVariants.{Memory, Stuck}
use Rattle.tv_replay_step.specs.declared.moved.Moved.{Moved}
use Rattle.tv_replay_step.specs.declared.step.EdgeAction.{EdgeAction}

abbrev pub program_in : EdgeAction → ProgramForm
program_in turn = program_of turn.program.now

abbrev pub action_in : EdgeAction → ActionForm
action_in turn = action_of turn.action.now

-- the program's action of the number that the edge has
abbrev pub action_along : EdgeAction → ActionForm
action_along turn = action_at turn.program.now turn.edge.now.action

-- the turn's action is that of its edge, a number of the program, and its order is of all definitions; s is a
-- heap of the program, and the values of the move are over it
pub record IsReadyFor (turn : EdgeAction) (s : StructureForm) (move : Move)
    (room : ScratchForm) : Type 0 where
  pub heap : IsHeapFor (program_in turn) s
  pub over : IsOver turn.program.now.vocab s
  pub number : turn.edge.now.action < length turn.program.now.actions
  pub order : AreAllDefined (program_in turn) (map (λ p. p.0) turn.order.now)
  pub its_action : action_along turn ≡ action_in turn
  pub is_action : Contains (program_in turn).actions (action_in turn)
  pub values : IfSome move.values (IsRead turn.program.now.vocab)
  pub made : IsMadeFor (program_in turn) 256 room

-- the variables stand for the individuals of the move, one for each
abbrev pub IsPickedFor : EdgeAction → StructureForm → Move → List (Option ℕ) → Type 0
IsPickedFor turn s move places =
    (nobody : List (Option ℕ)) × ((v : ℕ) → individual_for nobody v ≡ None)
    × PutsPicked s.size nobody (action_in turn).picks move.picks places

-- moreover, the picked variables stand for individuals, and the precondition is true
pub record CanTurn (turn : EdgeAction) (s : StructureForm) (places : List (Option ℕ)) (move : Move)
    (room : ScratchForm) : Type 0 where
  pub ready : IsReadyFor turn s move room
  pub act : CanAct (program_in turn) (action_in turn) s places
  pub enabled : IfSome (action_in turn).pre (Truth (heap_of s) (assignment_of places))

-- whatever is kept, each freely updated predicate is given values
abbrev pub HasValues : ActionForm → (picked : Assignment) → StructureForm → Option StructureForm → Type 0
HasValues action picked s values =
    (kept : List ℕ) → AreRetained action picked s kept → AreValuesFor action (length kept) values

-- the heap of x is what the action makes of that of s, where the variables are picked so, and this is broken
-- first
pub record IsActed (p : ProgramForm) (action : ActionForm) (picked : Assignment)
    (values : Option StructureForm) (s : StructureForm) (x : Moved)
    : Type 0 where
  pub is : IsStructure x.heap
  pub over : arities_of x.heap ≡ arities_of s
  pub kept : List ℕ
  pub are_kept : AreRetained action picked s kept
  pub size : x.heap.size ≡ length kept
  pub two_valued : IsTwoValued x.heap
  pub steps : StepsThrough p action picked (heap_of s) (middle_of action.fresh s)
      (renamed (kept_individual kept) (heap_of x.heap))
  pub given : HasGiven action values x.heap
  pub unmarked : x.heap.fresh ≡ None
  pub has_values : HasValues action picked s values
  pub broken : IsFirst p.preds (AgreesAt action picked (middle_of action.fresh s)
      (renamed (kept_individual kept) (heap_of x.heap))) (broken_by x)

abbrev pub StaysFor : ActionForm → (picked : Assignment) → StructureForm → Option StructureForm → Halt
    → Type 0
StaysFor action picked s values (Stuck w) = (w ≡ why.Values) × (¬ HasValues action picked s values)
StaysFor action picked s values Memory = ⊤

-- the turn is made
pub record Acts (turn : EdgeAction) (s : StructureForm) (places : List (Option ℕ)) (move : Move)
    (x : Moved) : Type 0 where
  pub node : x.node ≡ turn.edge.now.to
  pub acted : IsActed (program_in turn) (action_in turn) (assignment_of places) move.values s x

-- the action can't be made of the heap by the move, for that reason, the first that holds
abbrev pub FailsFor : ActionForm → Move → StructureForm → Why → Type 0
FailsFor action move s why.Edge = ⊥
FailsFor action move s why.Picks = ¬ ArePicked action move.picks s
FailsFor action move s why.Precondition = ArePicked action move.picks s × (¬ IsEnabled action move.picks s)
FailsFor action move s why.Individuals =
    ArePicked action move.picks s × IsEnabled action move.picks s × (¬ HasRoom action s)
FailsFor action move s why.Values =
    ArePicked action move.picks s × IsEnabled action move.picks s × HasRoom action s
    × (¬ AreValues action move.picks s move.values)

abbrev pub TurnFails : EdgeAction → StructureForm → Move → Halt → Type 0
TurnFails turn s move (Stuck w) = FailsFor (action_in turn) move s w
TurnFails turn s move Memory = ⊤

-- the action is made of the heap by the move
pub record Turns (turn : EdgeAction) (s : StructureForm) (move : Move) (x : Moved) : Type 0 where
  pub node : x.node ≡ turn.edge.now.to
  pub picks : ArePicked (action_in turn) move.picks s
  pub enabled : IsEnabled (action_in turn) move.picks s
  pub room : HasRoom (action_in turn) s
  pub acted : IsActed (program_in turn) (action_in turn)
      (picked_by (action_in turn).picks move.picks) move.values s x
