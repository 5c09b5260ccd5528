-- A given run has one ending.
use Rattle.std.proofs.Common.{ℕ, zero, suc, ◌≡◌, ◌-◌, List, [], ◌∷◌, map, take, Option, Some, None, refl, sym}
use Rattle.std.proofs.Common.{ap, subst, ◌∙◌, arith}
use Rattle.std.specs.Prelude.{slice_get}
use Rattle.std.specs.Option.{option_map}
use Rattle.std.proofs.lemmas.Option.{same_Some}
use Rattle.tv_concrete.specs.Laws.{AtMostOneConcrete}
use Rattle.tv_listing.specs.ListingForm.{at_node}
use Rattle.tv_model.specs.Program.{ProgramForm, ActionForm}
use Rattle.tv_model.specs.Valid.{IsValid}
use Rattle.tv_model.specs.declared.formula.PredId.{PredId}
use Rattle.tv_structure_form.specs.StructureForm.{StructureForm, IsStructure}
use Rattle.tv_trace.specs.declared.trace.Move.{Move}
use Rattle.tv_two_valued.specs.TwoValued.{IsTwoValued, heap_of}
use Rattle.tv_renaming_laws.specs.Renamed.{renamed}
use Rattle.tv_replay_laws.specs.Judged.{AgreesAt, IsAsDefined, IsFirst}
use Rattle.tv_replay_laws.specs.Above.{IsFirstAbove}
use Rattle.tv_replay_laws.specs.JudgedRules.{IsFirstUnmet, judged_rules}
use Rattle.tv_replay_laws.specs.Laws.{RunsHaveOneEnding}
use Rattle.tv_replay_laws.specs.Next.{middle_of, kept_individual, picked_by}
use Rattle.tv_replay_laws.specs.States.{AreNextStates, IsFirstState, IsJudged, IsNextState, IsReplay}
use Rattle.tv_replay_laws.specs.States.{broken_in, standing}
use Rattle.tv_replay_laws.specs.Stuck.{IsFirstFailure, GoesThrough, IsStuck, Moves, Standing, Taken, last_of}
use Rattle.tv_replay_laws.specs.Stuck.{start_at}
use Rattle.tv_replay_laws.specs.declared.state.State.{State}
use Rattle.tv_replay_laws.specs.declared.state.Why.{Why}
use Rattle.tv_replay_laws.proofs.Firsts.{one-place, one-pred, one-rule}
use Rattle.tv_replay_laws.proofs.OneStep.{kept-same, made-not_failed, one-failure, same-move, same-taken}

-- ---- one step, and one reason

-- the moves before place n can be made, and the one there can't, for that reason
record StopsAt (p : ProgramForm) (at : Standing) (moves : List Move) (n : ℕ) (w : Why) : Type 0 where
  before : List Standing
  through : GoesThrough p at (take n moves) before
  move : Move
  there : slice_get moves n ≡ Some move
  taken : Taken p move
  fails : IsFirstFailure (last_of at before) move taken w

abbrev FailsHere : ProgramForm → Standing → Why → Move → Type 0
FailsHere p at w move = (t : Taken p move) × IsFirstFailure at move t w

stops-nowhere : (p : ProgramForm) (at : Standing) (n : ℕ) (w : Why) → StopsAt p at [] n w → ⊥
stops-nowhere p at n w stops = none stops.move stops.there
  where
    none : (m : Move) → slice_get [] n ≡ Some m → ⊥
    none m e = cc

stops-here : (p : ProgramForm) (at : Standing) (move : Move) (moves : List Move) (w : Why) → StopsAt p at (move ∷ moves) 0 w → FailsHere p at w move
stops-here p at move moves w stops =
    subst (FailsHere p at w) (sym (same_Some move stops.move stops.there)) (stops.taken, none stops.before stops.through stops.fails)
  where
    none : (before : List Standing) → GoesThrough p at [] before → IsFirstFailure (last_of at before) stops.move stops.taken w → IsFirstFailure at stops.move stops.taken w
    none [] through fails = fails
    none (x ∷ before) through fails = absurd through

record StopsLater (p : ProgramForm) (at : Standing) (move : Move) (moves : List Move) (n : ℕ) (w : Why) : Type 0 where
  next : Standing
  made : Moves p move at next
  stops : StopsAt p next moves n w

stops-later : (p : ProgramForm) (at : Standing) (move : Move) (moves : List Move) (n : ℕ) (w : Why) → StopsAt p at (move ∷ moves) (suc n) w
    → StopsLater p at move moves n w
stops-later p at move moves n w stops = by stops.before stops.through stops.fails
  where
    by : (before : List Standing) → GoesThrough p at (move ∷ take n moves) before → IsFirstFailure (last_of at before) stops.move stops.taken w
        → StopsLater p at move moves n w
    by [] through fails = absurd through
    by (x ∷ before) through fails = record {
      next = x;
      made = through.0;
      stops = record { before = before; through = through.1; move = stops.move; there = stops.there; taken = stops.taken; fails = fails };
    }

module _ (one_concrete : AtMostOneConcrete) (p : ProgramForm) (valid : IsValid p) where
  one-stop : (moves : List Move) (at : Standing) (j k : ℕ) (w v : Why) → StopsAt p at moves j w → StopsAt p at moves k v → (j ≡ k) × (w ≡ v)
  one-stop [] at j k w v one two = absurd (stops-nowhere p at j w one)
  one-stop (m ∷ moves) at zero zero w v one two =
      let f = stops-here p at m moves w one
      in let g = stops-here p at m moves v two
      in (refl, one-failure p m at f.0 g.0 w v f.1 g.1)
  one-stop (m ∷ moves) at zero (suc k) w v one two =
      let f = stops-here p at m moves w one
      in let g = stops-later p at m moves k v two
      in absurd (made-not_failed p m at g.next g.made f.0 w f.1)
  one-stop (m ∷ moves) at (suc j) zero w v one two =
      let f = stops-later p at m moves j w one
      in let g = stops-here p at m moves v two
      in absurd (made-not_failed p m at f.next f.made g.0 v g.1)
  one-stop (m ∷ moves) at (suc j) (suc k) w v one two =
      let f = stops-later p at m moves j w one
      in let g = stops-later p at m moves k v two
      in let same : g.next ≡ f.next = same-move one_concrete p valid m at g.next f.next g.made f.made
      in let rest = one-stop moves f.next j k w v f.stops (subst (λ x. StopsAt p x moves k v) same g.stops)
      in (ap suc rest.0, rest.1)

  never-stops : (moves : List Move) (at : Standing) (later : List Standing) (n : ℕ) (w : Why) → GoesThrough p at moves later → StopsAt p at moves n w → ⊥
  never-stops [] at later n w through stops = stops-nowhere p at n w stops
  never-stops (m ∷ moves) at [] n w through stops = absurd through
  never-stops (m ∷ moves) at (x ∷ later) zero w through stops =
      let f = stops-here p at m moves w stops in made-not_failed p m at x through.0 f.0 w f.1
  never-stops (m ∷ moves) at (x ∷ later) (suc n) w through stops =
      let f = stops-later p at m moves n w stops
      in let same : f.next ≡ x = same-move one_concrete p valid m at f.next x f.made through.0
      in never-stops moves x later n w through.1 (subst (λ y. StopsAt p y moves n w) same f.stops)

stops-at : (p : ProgramForm) (start : StructureForm) (moves : List Move) (step : ℕ) (w : Why) → IsStuck p start moves step w
    → StopsAt p (start_at start) moves (step - 1) w
stops-at p start moves step w stuck = record {
  before = stuck.before;
  through = stuck.through;
  move = stuck.move;
  there = stuck.there;
  taken = stuck.taken;
  fails = stuck.fails;
}

-- ---- one list of states

-- states that are given the same judgement
same-broken : (a b : Option PredId) → option_map (λ (q : PredId). q.0) a ≡ option_map (λ (q : PredId). q.0) b → a ≡ b
same-broken None None e = refl
same-broken None (Some q) e = absurd cc
same-broken (Some q) None e = absurd cc
same-broken (Some q) (Some r) e =
    let number : q.0 ≡ r.0 = same_Some q.0 r.0 e
    in let pred : q ≡ r = λ i. record { 0 = number i }
    in ap Some pred

module _ (one_concrete : AtMostOneConcrete) (p : ProgramForm) (valid : IsValid p) (listing : List (List StructureForm)) where
  same-rule : (x y : State) → x.heap ≡ y.heap → IsJudged p listing x → IsJudged p listing y → x.rule ≡ y.rule
  same-rule x y heap one two =
      one-rule (heap_of x.heap) (judged_rules p) x.rule y.rule one.rule
      (subst (λ h. IsFirstUnmet (heap_of h) (judged_rules p) y.rule) (sym heap) two.rule)

  same-listed : (x y : State) → IsStructure x.heap → IsTwoValued x.heap → x.node ≡ y.node → x.heap ≡ y.heap → IsJudged p listing x
      → IsJudged p listing y → x.listed ≡ y.listed
  same-listed x y is two_valued node heap one two =
      one-place x.heap (at_node listing x.node) is two_valued x.listed y.listed one.listed
      (subst (λ h. IsFirstAbove h (at_node listing x.node) y.listed) (sym heap)
      (subst (λ n. IsFirstAbove y.heap (at_node listing n) y.listed) (sym node) two.listed))

  one-first : (initial : List StructureForm) (start : StructureForm) → IsStructure start → IsTwoValued start → (x y : State)
      → IsFirstState p initial start listing x → IsFirstState p initial start listing y → x ≡ y
  one-first initial start is two_valued x y one two =
      let node : x.node ≡ y.node = one.node ∙ sym two.node
      in let heap : x.heap ≡ y.heap = one.heap ∙ sym two.heap
      in let broken : x.broken ≡ y.broken
      = same-broken x.broken y.broken (one-pred p.preds (IsAsDefined (heap_of start)) (broken_in x) (broken_in y) one.broken two.broken)
      in let rule : x.rule ≡ y.rule = same-rule x y heap one.judged two.judged
      in let above : x.initial ≡ y.initial = one-place start initial is two_valued x.initial y.initial one.above two.above
      in let listed : x.listed ≡ y.listed
      = same-listed x y (subst IsStructure (sym one.heap) is) (subst IsTwoValued (sym one.heap) two_valued) node heap one.judged two.judged
      in λ i. record { node = node i; heap = heap i; broken = broken i; rule = rule i; initial = above i; listed = listed i }

  one-next : (move : Move) (before x y : State) → IsNextState p listing move before x → IsNextState p listing move before y → x ≡ y
  one-next move before x y one two =
      let at : standing x ≡ standing y = same-move one_concrete p valid move (standing before) (standing x) (standing y) one.moves two.moves
      in let node : x.node ≡ y.node = ap (λ (s : Standing). s.node) at
      in let heap : x.heap ≡ y.heap = ap (λ (s : Standing). s.heap) at
      in let action : one.moves.taken.action ≡ two.moves.taken.action = (same-taken p move one.moves.taken two.moves.taken).1
      in let kept : one.moves.kept ≡ two.moves.kept
      = kept-same p move (standing before) (standing x) (standing y) one.moves two.moves
      in let Broken : ActionForm → List ℕ → StructureForm → Type 0
      = λ a names h. IsFirst p.preds
      (AgreesAt a (picked_by a.picks move.picks) (middle_of a.fresh before.heap) (renamed (kept_individual names) (heap_of h))) (broken_in y)
      in let other : Broken one.moves.taken.action one.moves.kept x.heap
      = subst (λ h. Broken one.moves.taken.action one.moves.kept h) (sym heap)
      (subst (λ names. Broken one.moves.taken.action names y.heap) (sym kept)
      (subst (λ a. Broken a two.moves.kept y.heap) (sym action) two.broken))
      in let broken : x.broken ≡ y.broken = same-broken x.broken y.broken (one-pred p.preds _ (broken_in x) (broken_in y) one.broken other)
      in let rule : x.rule ≡ y.rule = same-rule x y heap one.judged two.judged
      in let initial : x.initial ≡ y.initial = one.initial ∙ sym two.initial
      in let listed : x.listed ≡ y.listed
      = same-listed x y one.moves.next.structure one.moves.next.two_valued node heap one.judged two.judged
      in λ i. record { node = node i; heap = heap i; broken = broken i; rule = rule i; initial = initial i; listed = listed i }

  one-later : (before : State) (moves : List Move) (xs ys : List State) → AreNextStates p listing before moves xs
      → AreNextStates p listing before moves ys → xs ≡ ys
  one-later before [] [] [] one two = refl
  one-later before [] [] (y ∷ ys) one two = absurd two
  one-later before [] (x ∷ xs) ys one two = absurd one
  one-later before (m ∷ moves) [] ys one two = absurd one
  one-later before (m ∷ moves) (x ∷ xs) [] one two = absurd two
  one-later before (m ∷ moves) (x ∷ xs) (y ∷ ys) one two =
      let head : y ≡ x = one-next m before y x two.0 one.0
      in let tail : xs ≡ ys = one-later x moves xs ys one.1 (subst (λ z. AreNextStates p listing z moves ys) head two.1)
      in λ i. sym head i ∷ tail i

  one-replay : (initial : List StructureForm) (start : StructureForm) → IsStructure start → IsTwoValued start → (moves : List Move) (xs ys : List State)
      → IsReplay p initial start moves listing xs → IsReplay p initial start moves listing ys → xs ≡ ys
  one-replay initial start is two_valued moves xs ys one two =
      let first : two.first ≡ one.first = one-first initial start is two_valued two.first one.first two.begins one.begins
      in let later : one.later ≡ two.later
      = one-later one.first moves one.later two.later one.goes_on (subst (λ x. AreNextStates p listing x moves two.later) first two.goes_on)
      in let whole : one.first ∷ one.later ≡ two.first ∷ two.later = λ i. sym first i ∷ later i
      in one.are ∙ whole ∙ sym two.are

-- ---- a replay makes all the moves

pub goes-through : (p : ProgramForm) (listing : List (List StructureForm)) (before : State) (moves : List Move) (later : List State)
    → AreNextStates p listing before moves later → GoesThrough p (standing before) moves (map standing later)
goes-through p listing before [] [] are = tt
goes-through p listing before [] (y ∷ later) are = absurd are
goes-through p listing before (n ∷ moves) [] are = absurd are
goes-through p listing before (n ∷ moves) (y ∷ later) are = (are.0.moves, goes-through p listing y moves later are.1)

pub starts-at : (p : ProgramForm) (initial : List StructureForm) (start : StructureForm) (listing : List (List StructureForm)) (x : State)
    → IsFirstState p initial start listing x → standing x ≡ start_at start
starts-at p initial start listing x begins = λ i. record { node = begins.node i; heap = begins.heap i }

pub makes-all : (p : ProgramForm) (initial : List StructureForm) (start : StructureForm) (moves : List Move) (listing : List (List StructureForm))
    (states : List State) → IsReplay p initial start moves listing states → (later : List Standing) × GoesThrough p (start_at start) moves later
makes-all p initial start moves listing states replay = (
  map standing replay.later,
  subst (λ at. GoesThrough p at moves (map standing replay.later)) (starts-at p initial start listing replay.first replay.begins)
      (goes-through p listing replay.first moves replay.later replay.goes_on),
)

pub runs_have_one_ending : AtMostOneConcrete → RunsHaveOneEnding
runs_have_one_ending one_concrete p valid start moves = record {
  stuck = λ j k w v one two.
      let same = one-stop one_concrete p valid moves (start_at start) (j - 1) (k - 1) w v (stops-at p start moves j w one) (stops-at p start moves k v two)
      in (let first = one.counted in let second = two.counted in let number = same.0 in omega (arith, first, second, number), same.1);
  unstuck = λ later step w through stuck. never-stops one_concrete p valid moves (start_at start) later (step - 1) w through (stops-at p start moves step w stuck);
  made = λ initial listing states replay. makes-all p initial start moves listing states replay;
  states = λ is two_valued initial listing xs ys one two. one-replay one_concrete p valid listing initial start is two_valued moves xs ys one two;
}
