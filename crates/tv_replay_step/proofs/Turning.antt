-- A turn: what its parts ask for, and what comes of them.
use Rattle.std.proofs.Common.{ℕ, ◌≡◌, ◌<◌, ◌↔◌, List, length, get_or, map, Option, Some, None, IsTrue, refl}
use Rattle.std.proofs.Common.{sym, ap, subst, ◌∙◌, arith, Contains, All}
use Rattle.std.specs.Prelude.{IfSome, Result, slice_get}
use Rattle.std.specs.List.{AllByRecursion}
use Rattle.std.proofs.lemmas.List.{get_or-map, length-map}
use Rattle.std.proofs.lemmas.List.Elements.{All-contains, All-from_recursion, Contains-get_or}
use Rattle.std.proofs.lemmas.List.Elements.{recursion_from_All}
use Rattle.std.specs.Result.{IfErr, IfOk}
use Rattle.std.proofs.lemmas.Result.{IfErr-weaker, IfOk-weaker}
use Rattle.std.proofs.lemmas.Option.{slice_get_within, slice_get-get_or}
use Rattle.tv_model.proofs.Parts.{first-occurs}
use Rattle.tv_eval.specs.AssignmentForm.{IsAssigned, assignment_of, individual_for}
use Rattle.tv_eval.specs.ScratchForm.{ScratchForm, IsMadeFor}
use Rattle.tv_eval.proofs.Programs.{made_scratches_fit, program_formulas_are_over, within_height}
use Rattle.tv_replay_judge.specs.Same.{IsSameAt}
use Rattle.tv_model.specs.Form.{Form}
use Rattle.tv_model.specs.Program.{ProgramForm, PredForm, ActionForm, UpdateForm, action_of, picks_of}
use Rattle.tv_model.specs.Program.{pred_of, update_of}
use Rattle.tv_model.specs.Truth.{Assignment, Truth, put_all}
use Rattle.tv_model.specs.Valid.{IsAction, IsEdge, IsPrecondition, IsUpdate, IsValid, free_occurrences}
use Rattle.tv_model.specs.declared.formula.PredId.{PredId}
use Rattle.tv_model.specs.declared.formula.Var.{Var}
use Rattle.tv_model.specs.declared.program.Action.{Action}
use Rattle.tv_model.specs.declared.program.Edge.{Edge}
use Rattle.tv_model.specs.declared.program.Update.{Update}
use Rattle.tv_model.specs.declared.program.Vocab.{Vocab}
use Rattle.tv_model.proofs.Lists.{All-from_contains, Contains-map, map-compose, slice_get-contains}
use Rattle.tv_update_laws.proofs.Preconditions.{free-occurs}
use Rattle.tv_replay_laws.specs.Judged.{IsFirst}
use Rattle.tv_replay_laws.specs.Next.{picked_by}
use Rattle.tv_replay_laws.specs.Stuck.{ArePicked, IsEnabled, Standing, Taken}
use Rattle.tv_replay_laws.specs.declared.state.Why.{Why}
use Rattle.tv_replay_laws.specs.declared.state.Why.TheVariants as why
use Rattle.tv_structure_form.specs.StructureForm.{StructureForm, IsOver, IsStructure, arities_of}
use Rattle.tv_trace.specs.declared.trace.Move.{Move}
use Rattle.tv_tvs.specs.Targets.{IsRead}
use Rattle.tv_two_valued.specs.TwoValued.{IsTwoValued, heap_of}
use Rattle.tv_update.specs.Redefined.{AreAllDefined}
use Rattle.tv_update.specs.Update.{action_at, no_action}
use Rattle.tv_update.proofs.Variables.{picks-in_range}
use Rattle.tv_replay_judge.proofs.Compared.{none-blank}
use Rattle.tv_replay_step.specs.Free.{CanCopy, GivesAll, GivesValues, IsFinished}
use Rattle.tv_replay_step.specs.Free as free
use Rattle.tv_replay_step.specs.Picked.{AreOneEach, PutsPicked}
use Rattle.tv_replay_step.specs.Ready.{CanAct, CanAsk}
use Rattle.tv_replay_step.specs.Stepped.{Halts, IsMoved, broken_by}
use Rattle.tv_replay_step.specs.Turns.{Acts, CanTurn, FailsFor, HasValues, IsActed, IsReadyFor, StaysFor}
use Rattle.tv_replay_step.specs.Turns.{TurnFails, Turns, action_in, program_in}
use Rattle.tv_replay_step.specs.Updated.{IsUpdatedTo}
use Rattle.tv_replay_step.specs.declared.moved.Halt.{Halt}
use Rattle.tv_replay_step.specs.declared.moved.Halt.TheVariants.{Memory, Stuck}
use Rattle.tv_replay_step.specs.declared.moved.Moved.{Moved}
use Rattle.tv_replay_step.specs.declared.step.EdgeAction.{EdgeAction}
use Rattle.tv_replay_step.proofs.Acted.{acted, no-values}
use Rattle.tv_replay_step.proofs.Applied.{inside, is-action}
use Rattle.tv_replay_step.proofs.Picking.{one-each, variables-below}

-- ---- the turn, once its variables are picked

module _ (turn : EdgeAction) (s : StructureForm) (places : List (Option ℕ)) (move : Move) (room : ScratchForm) (can : CanTurn turn s places move room) where
  abbrev p : ProgramForm
  p = program_in turn

  abbrev action : ActionForm
  action = action_in turn

  abbrev vocab : Vocab
  vocab = turn.program.now.vocab

  valid-action : IsAction p action
  valid-action = is-action p action s places can.act

  pub act-at : CanAct p (action_at turn.program.now turn.edge.now.action) s places
  act-at = subst (λ a. CanAct p a s places) (sym can.ready.its_action) can.act

  pub fresh-at : (action_at turn.program.now turn.edge.now.action).fresh ≡ turn.action.now.fresh
  fresh-at = ap (λ (a : ActionForm). a.fresh) can.ready.its_action

  pub updated-here : (t : StructureForm) → IsUpdatedTo p (action_at turn.program.now turn.edge.now.action) (assignment_of places) s t
      → IsUpdatedTo p action (assignment_of places) s t
  updated-here t to = subst (λ a. IsUpdatedTo p a (assignment_of places) s t) can.ready.its_action to

  -- updates are of predicates of the vocabulary
  pred-known : (w : Update) → Contains turn.action.now.updates w → w.pred.0 < length vocab.preds
  pred-known w at =
      let is : IsUpdate p action (update_of w)
      = All-contains (IsUpdate p action) action.updates (update_of w) valid-action.updates (Contains-map update_of w turn.action.now.updates at)
      in subst (λ n. w.pred.0 < n) (length-map vocab.preds pred_of) (slice_get_within p.preds w.pred.0 is.0 is.1)

  known-in : (v : StructureForm) → IsOver vocab v → (w : Update) → Contains turn.action.now.updates w → w.pred.0 < length (arities_of v)
  known-in v over w at =
      subst (λ n. w.pred.0 < n) (sym (ap length over ∙ length-map vocab.preds (λ d. d.arity))) (pred-known w at)

  pub values-known : IfSome move.values (λ v. AllByRecursion (λ (w : Update). w.pred.0 < length (arities_of v)) turn.action.now.updates)
  values-known = by_values move.values can.ready.values
    where
      by_values : (o : Option StructureForm) → IfSome o (IsRead vocab)
          → IfSome o (λ v. AllByRecursion (λ (w : Update). w.pred.0 < length (arities_of v)) turn.action.now.updates)
      by_values None none = none
      by_values (Some v) read =
          recursion_from_All (λ (w : Update). w.pred.0 < length (arities_of v)) turn.action.now.updates
          (All-from_contains (λ (w : Update). w.pred.0 < length (arities_of v)) turn.action.now.updates (λ w at. known-in v read.over w at))

  pub can-copy : (t : StructureForm) → arities_of t ≡ arities_of s → GivesAll t.size move.values (map update_of turn.action.now.updates)
      → IfSome move.values (λ v. AllByRecursion (λ (w : Update). free.IsFree (update_of w) → CanCopy v t w.pred.0) turn.action.now.updates)
  can-copy t over all = by_values move.values can.ready.values all
    where
      by_values : (o : Option StructureForm) → IfSome o (IsRead vocab) → GivesAll t.size o (map update_of turn.action.now.updates)
          → IfSome o (λ v. AllByRecursion (λ (w : Update). free.IsFree (update_of w) → CanCopy v t w.pred.0) turn.action.now.updates)
      by_values None none given = none
      by_values (Some v) read given =
          recursion_from_All (λ (w : Update). free.IsFree (update_of w) → CanCopy v t w.pred.0) turn.action.now.updates
          (All-from_contains (λ (w : Update). free.IsFree (update_of w) → CanCopy v t w.pred.0) turn.action.now.updates
          (λ w at is_free. record {
            over = read.over ∙ sym (over ∙ can.ready.over);
            size = (All-contains (λ (y : UpdateForm). free.IsFree y → GivesValues t.size (Some v) y.pred) (map update_of turn.action.now.updates)
                (update_of w)
                (All-from_recursion (λ (y : UpdateForm). free.IsFree y → GivesValues t.size (Some v) y.pred)
                (map update_of turn.action.now.updates) given)
                (Contains-map update_of w turn.action.now.updates at) is_free).0;
            pred = known-in t (over ∙ can.ready.over) w at;
          }))

  picks-inside : All (λ v. Contains (heap_of s).individuals (assignment_of places v)) action.picks
  picks-inside =
      All-from_contains (λ v. Contains (heap_of s).individuals (assignment_of places v)) action.picks (inside p action s places can.act)

  pub acts : (t x : StructureForm) → IsUpdatedTo p action (assignment_of places) s t → GivesAll t.size move.values (map update_of turn.action.now.updates)
      → IsFinished p (map update_of turn.action.now.updates) move.values t x → (m : Moved) → m.heap ≡ x → m.node ≡ turn.edge.now.to
      → IsFirst p.preds (IsSameAt action t x) (broken_by m) → Acts turn s places move m
  acts t x to all done m is_x node broken = record {
    node = node;
    acted = acted p can.act.heap.valid action valid-action s can.act.heap.structure can.act.heap.two_valued can.act.heap.of_program
        (assignment_of places) (inside p action s places can.act) t to move.values all x done m is_x picks-inside can.enabled broken;
  }

  pub no-values-here : (t : StructureForm) → IsUpdatedTo p action (assignment_of places) s t
      → ¬ GivesAll t.size move.values (map update_of turn.action.now.updates) → ¬ HasValues action (assignment_of places) s move.values
  no-values-here t to none =
      no-values p action valid-action s can.act.heap.structure can.act.heap.two_valued (assignment_of places) (inside p action s places can.act)
      t to move.values none

-- ---- the turn before

module _ (turn : EdgeAction) (s : StructureForm) (move : Move) (room : ScratchForm) (ready : IsReadyFor turn s move room) where
  action-valid : IsAction (program_in turn) (action_in turn)
  action-valid = All-contains (IsAction (program_in turn)) (program_in turn).actions (action_in turn) ready.heap.valid.actions ready.is_action

  pub picks-below : AllByRecursion (λ v. v.0 < 32) turn.action.now.picks
  picks-below =
      variables-below turn.action.now.picks
      (picks-in_range (program_in turn) (action_in turn).pre (action_in turn).picks action-valid.precondition)

  module _ (nobody places : List (Option ℕ)) (new : (v : ℕ) → individual_for nobody v ≡ None)
      (puts : PutsPicked s.size nobody (action_in turn).picks move.picks places) where
    pub are-picked : ArePicked (action_in turn) move.picks s
    are-picked = (one-each s.size (action_in turn).picks move.picks).0 puts.each

    pub picked-so : assignment_of places ≡ picked_by (action_in turn).picks move.picks
    picked-so = puts.total ∙ ap (λ a. put_all a (action_in turn).picks move.picks) (none-blank nobody new)

    assigned-all : All (IsAssigned s.size places) (action_in turn).picks
    assigned-all = All-from_recursion (IsAssigned s.size places) (action_in turn).picks puts.assigned

    pub can-ask : IfSome (action_in turn).pre (CanAsk s places room)
    can-ask = by_pre (action_in turn).pre refl action-valid.precondition
      where
        by_pre : (o : Option Form) → (action_in turn).pre ≡ o → IsPrecondition (program_in turn) o (action_in turn).picks
            → IfSome o (CanAsk s places room)
        by_pre None e valid = tt
        by_pre (Some f) e valid = record {
          structure = ready.heap.structure;
          two_valued = ready.heap.two_valued;
          formula = program_formulas_are_over turn.program.now s f ready.over valid.0.0;
          assigned = λ v is_free.
              All-contains (IsAssigned s.size places) (action_in turn).picks v assigned-all
              (subst (λ vs. Contains vs v) (sym valid.1) (first-occurs (free_occurrences f) v (free-occurs f v is_free)));
          fits = made_scratches_fit (program_in turn) 256 s.size room f ready.made
              (let low = (within_height (program_in turn)).preconditions (action_in turn) f ready.is_action e in omega (arith, low))
              ready.heap.structure.table.size;
        }

    pub can-turn : (IsTrue (action_in turn).fresh → s.size < 256) → IfSome (action_in turn).pre (Truth (heap_of s) (assignment_of places))
        → CanTurn turn s places move room
    can-turn has_room enabled = record {
      ready = ready;
      act = record { heap = ready.heap; is_action = ready.is_action; picks = assigned-all; room = has_room };
      enabled = enabled;
    }

    pub enabled-so : IfSome (action_in turn).pre (Truth (heap_of s) (assignment_of places)) ↔ IsEnabled (action_in turn) move.picks s
    enabled-so =
        let To : Assignment → Type 0 = λ a. IfSome (action_in turn).pre (Truth (heap_of s) a)
        in (λ e. subst To picked-so e, λ e. subst To (sym picked-so) e)

    pub turns : (m : Moved) → (IsTrue (action_in turn).fresh → s.size < 256) → IfSome (action_in turn).pre (Truth (heap_of s) (assignment_of places))
        → Acts turn s places move m → Turns turn s move m
    turns m has_room enabled made = record {
      node = made.node;
      picks = are-picked;
      enabled = enabled-so.0 enabled;
      room = has_room;
      acted = subst (λ a. IsActed (program_in turn) (action_in turn) a move.values s m) picked-so made.acted;
    }

    pub values-so : HasValues (action_in turn) (assignment_of places) s move.values
        ↔ HasValues (action_in turn) (picked_by (action_in turn).picks move.picks) s move.values
    values-so =
        let To : Assignment → Type 0 = λ a. HasValues (action_in turn) a s move.values
        in (λ e. subst To picked-so e, λ e. subst To (sym picked-so) e)

    -- why it isn't made
    pub fails : (e : Halt) → (IsTrue (action_in turn).fresh → s.size < 256) → IfSome (action_in turn).pre (Truth (heap_of s) (assignment_of places))
        → StaysFor (action_in turn) (assignment_of places) s move.values e → TurnFails turn s move e
    fails (Stuck w) has_room enabled stays =
        let At : Why → Type 0 = λ x. FailsFor (action_in turn) move s x
        in subst At (sym stays.0) (are-picked, enabled-so.0 enabled, has_room, λ has. stays.1 (values-so.1 has))
    fails Memory has_room enabled stays = tt

-- the picks as slices of the turn and the move
pub puts-here : (turn : EdgeAction) (s : StructureForm) (move : Move) (n : ℕ) (vs : List Var) (us : List ℕ) (nobody places : List (Option ℕ))
    → n ≡ s.size → vs ≡ turn.action.now.picks → us ≡ move.picks → PutsPicked n nobody (picks_of vs) us places
    → PutsPicked s.size nobody (action_in turn).picks move.picks places
puts-here turn s move n vs us nobody places e f g puts =
    subst (λ m. PutsPicked m nobody (action_in turn).picks move.picks places) e
    (subst (λ (ws : List Var). PutsPicked n nobody (picks_of ws) move.picks places) f
    (subst (λ ws. PutsPicked n nobody (picks_of vs) ws places) g puts))

pub none-here : (turn : EdgeAction) (s : StructureForm) (move : Move) (n : ℕ) (vs : List Var) (us : List ℕ)
    → n ≡ s.size → vs ≡ turn.action.now.picks → us ≡ move.picks → ¬ AreOneEach n (picks_of vs) us → ¬ ArePicked (action_in turn) move.picks s
none-here turn s move n vs us e f g none are =
    none (subst (λ m. AreOneEach m (picks_of vs) us) (sym e)
    (subst (λ (ws : List Var). AreOneEach s.size (picks_of ws) us) (sym f)
    (subst (λ ws. AreOneEach s.size (action_in turn).picks ws) (sym g) ((one-each s.size (action_in turn).picks move.picks).1 are))))

-- ---- the move

-- an edge of the program has an action
abbrev pub taken-by : (p : ProgramForm) → IsValid p → (move : Move) (edge : Edge) → slice_get p.edges move.edge ≡ Some edge → Taken p move
taken-by p valid move edge is = record {
  edge = edge;
  action = get_or p.actions edge.action no_action;
  its_edge = is;
  its_action = slice_get-get_or p.actions edge.action no_action
      (All-contains (IsEdge p) p.edges edge valid.edges (slice_get-contains p.edges move.edge edge is)).2;
}

-- the edge of that number, read in a slice of them
pub edge-at : (edges slice : List Edge) (n : ℕ) (d : Edge) → slice ≡ edges → n < length edges → slice_get edges n ≡ Some (get_or slice n d)
edge-at edges slice n d same known = slice_get-get_or edges n d known ∙ ap (λ (es : List Edge). Some (get_or es n d)) (sym same)

action-number : (turn : EdgeAction) → IsValid (program_in turn) → (move : Move) → slice_get (program_in turn).edges move.edge ≡ Some turn.edge.now
    → turn.edge.now.action < length (program_in turn).actions
action-number turn valid move found =
    (All-contains (IsEdge (program_in turn)) (program_in turn).edges turn.edge.now valid.edges
    (slice_get-contains (program_in turn).edges move.edge turn.edge.now found)).2

pub its-action : (turn : EdgeAction) (s : StructureForm) (move : Move) (room : ScratchForm) → IsReadyFor turn s move room
    → slice_get (program_in turn).actions turn.edge.now.action ≡ Some (action_in turn)
its-action turn s move room ready =
    let number : turn.edge.now.action < length (program_in turn).actions
    = subst (λ n. turn.edge.now.action < n) (sym (length-map turn.program.now.actions action_of)) ready.number
    in slice_get-get_or (program_in turn).actions turn.edge.now.action no_action number ∙ ap Some ready.its_action

pub ready-for : (turn : EdgeAction) (s : StructureForm) (move : Move) (room : ScratchForm) → IsValid (program_in turn)
    → AreAllDefined (program_in turn) (map (λ (q : PredId). q.0) turn.order.now) → IsStructure s → IsTwoValued s
    → IsOver turn.program.now.vocab s → s.fresh ≡ None → IfSome move.values (IsRead turn.program.now.vocab) → IsMadeFor (program_in turn) 256 room
    → slice_get (program_in turn).edges move.edge ≡ Some turn.edge.now
    → (actions : List Action) → actions ≡ turn.program.now.actions → turn.action.now ≡ get_or actions turn.edge.now.action turn.action.now
    → IsReadyFor turn s move room
ready-for turn s move room valid order is two over unmarked values made found actions same at_action = record {
  heap = record {
    valid = valid;
    structure = is;
    two_valued = two;
    of_program = (over ∙ sym (map-compose pred_of (λ (d : PredForm). d.arity) turn.program.now.vocab.preds), unmarked);
  };
  over = over;
  number = subst (λ n. turn.edge.now.action < n) (length-map turn.program.now.actions action_of) number;
  order = order;
  its_action = there;
  is_action = subst (Contains (program_in turn).actions) there
      (Contains-get_or (program_in turn).actions turn.edge.now.action no_action number);
  values = values;
  made = made;
}
  where
    number : turn.edge.now.action < length (program_in turn).actions
    number = action-number turn valid move found

    there : action_at turn.program.now turn.edge.now.action ≡ action_in turn
    there =
        get_or-map action_of turn.program.now.actions turn.edge.now.action turn.action.now no_action
        (subst (λ n. turn.edge.now.action < n) (length-map turn.program.now.actions action_of) number)
        ∙ ap action_of (sym (at_action ∙ ap (λ (xs : List Action). get_or xs turn.edge.now.action turn.action.now) same))

module _ (turn : EdgeAction) (s : StructureForm) (move : Move) (room : ScratchForm) (node : ℕ) (ready : IsReadyFor turn s move room)
    (found : slice_get (program_in turn).edges move.edge ≡ Some turn.edge.now) (leaves : turn.edge.now.from ≡ node) where
  abbrev at : Standing
  at = record { node = node; heap = s }

  abbrev taken : Taken (program_in turn) move
  taken = record { edge = turn.edge.now; action = action_in turn; its_edge = found; its_action = its-action turn s move room ready }

  pub moved : (x : Moved) → Turns turn s move x → IsMoved (program_in turn) move at x
  moved x made = record {
    moves = record {
      taken = taken;
      can = record { leaves = leaves; picks = made.picks; enabled = made.enabled; room = made.room; values = made.acted.has_values };
      kept = made.acted.kept;
      next = record {
        are_kept = made.acted.are_kept;
        structure = made.acted.is;
        over = made.acted.over;
        size = made.acted.size;
        two_valued = made.acted.two_valued;
        steps = made.acted.steps;
        given = made.acted.given;
      };
      unmarked = made.acted.unmarked;
      node = made.node;
    };
    broken = made.acted.broken;
  }

  pub halts : (e : Halt) → TurnFails turn s move e → Halts (program_in turn) move at e
  halts (Stuck why.Edge) f = absurd f
  halts (Stuck why.Picks) f = (taken, (leaves, f))
  halts (Stuck why.Precondition) f = (taken, (leaves, f.0, f.1))
  halts (Stuck why.Individuals) f = (taken, (leaves, f.0, f.1, f.2))
  halts (Stuck why.Values) f = (taken, (leaves, f.0, f.1, f.2, f.3))
  halts Memory f = tt

  -- what a turn answers is what the move answers
  pub moved-if : (r : Result Moved Halt) → IfOk r (Turns turn s move) → IfOk r (IsMoved (program_in turn) move at)
  moved-if r = IfOk-weaker r (Turns turn s move) (IsMoved (program_in turn) move at) (λ x made. moved x made)

  pub halts-if : (r : Result Moved Halt) → IfOk r (Turns turn s move) → IfErr r (TurnFails turn s move)
      → IfErr r (Halts (program_in turn) move at)
  halts-if r made = IfErr-weaker r (TurnFails turn s move) (Halts (program_in turn) move at) (λ e f. halts e f)
