-- The states of a replay: the start heap at the start node, and one state for each move.
use Rattle.std.specs.Prelude.{ℕ, ◌≡◌, List, [], ◌∷◌, Option, None, ⊤}
use Rattle.std.specs.Option.{option_map}
use Rattle.tv_listing.specs.ListingForm.{at_node}
use Rattle.tv_model.specs.Program.{ProgramForm}
use Rattle.tv_structure_form.specs.StructureForm.{StructureForm}
use Rattle.tv_trace.specs.declared.trace.Move.{Move}
use Rattle.tv_two_valued.specs.TwoValued.{heap_of}
use Rattle.tv_replay_laws.specs.Above.{IsFirstAbove}
use Rattle.tv_replay_laws.specs.JudgedRules.{IsFirstUnmet, judged_rules}
use Rattle.tv_replay_laws.specs.Judged.{IsFirst, IsAsDefined, AgreesAt}
use Rattle.tv_replay_laws.specs.Next.{picked_by, middle_of, kept_individual}
use Rattle.tv_renaming_laws.specs.Renamed.{renamed}
use Rattle.tv_replay_laws.specs.Stuck.{Standing, Moves}
use Rattle.tv_replay_laws.specs.declared.state.State.{State}

abbrev pub standing : State → Standing
standing x = record { node = x.node; heap = x.heap }

-- the number of the broken predicate
abbrev pub broken_in : State → Option ℕ
broken_in x = option_map (λ p. p.0) x.broken

-- what is judged of every state: the first rule that isn't met, and the first listed structure above
pub record IsJudged (p : ProgramForm) (listing : List (List StructureForm)) (x : State) : Type 0 where
  pub rule : IsFirstUnmet (heap_of x.heap) (judged_rules p) x.rule
  pub listed : IsFirstAbove x.heap (at_node listing x.node) x.listed

pub record IsFirstState (p : ProgramForm) (initial : List StructureForm) (start : StructureForm)
    (listing : List (List StructureForm)) (x : State) : Type 0 where
  pub node : x.node ≡ 0
  pub heap : x.heap ≡ start
  pub broken : IsFirst p.preds (IsAsDefined (heap_of start)) (broken_in x)
  pub above : IsFirstAbove start initial x.initial
  pub judged : IsJudged p listing x

pub record IsNextState (p : ProgramForm) (listing : List (List StructureForm)) (move : Move)
    (before x : State) : Type 0 where
  pub moves : Moves p move (standing before) (standing x)
  pub broken : IsFirst p.preds
      (AgreesAt moves.taken.action (picked_by moves.taken.action.picks move.picks)
      (middle_of moves.taken.action.fresh before.heap)
      (renamed (kept_individual moves.kept) (heap_of x.heap))) (broken_in x)
  pub initial : x.initial ≡ None
  pub judged : IsJudged p listing x

-- one state for each move, from the state before it
abbrev pub AreNextStates : ProgramForm → List (List StructureForm) → State → List Move → List State → Type 0
AreNextStates p listing before [] [] = ⊤
AreNextStates p listing before [] (x ∷ later) = ⊥
AreNextStates p listing before (move ∷ moves) [] = ⊥
AreNextStates p listing before (move ∷ moves) (x ∷ later) =
    IsNextState p listing move before x × AreNextStates p listing x moves later

pub record IsReplay (p : ProgramForm) (initial : List StructureForm) (start : StructureForm)
    (moves : List Move)
    (listing : List (List StructureForm)) (states : List State) : Type 0 where
  pub first : State
  pub later : List State
  pub are : states ≡ first ∷ later
  pub begins : IsFirstState p initial start listing first
  pub goes_on : AreNextStates p listing first moves later
