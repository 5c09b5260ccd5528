use Rattle.std.proofs.Common.{refl, sym, subst}
use Rattle.std.proofs.lemmas.Bool.{false≢true}
use Rattle.std.proofs.lemmas.Result.{IfErr-weaker, IfOk-weaker}
use Rattle.tv_eval.specs.AssignmentForm.{assignment_of}
use Rattle.tv_replay_step.specs.Turns.{Acts, CanTurn, StaysFor, TurnFails, Turns, action_in}
use Rattle.tv_replay_step.proofs.Turning.{are-picked, can-ask, can-turn, enabled-so, fails, turns}
use Rattle.tv_replay_step.proofs.step.turn_picked.Goals as goal

pub is_enabled-requires : goal.is_enabled-requires
is_enabled-requires c =
    can-ask c.args.turn.now c.args.s.now c.args.step.now c.args.scratch.now c.requires.ready c.requires.picked.0 c.args.picks.now
    c.requires.picked.1 c.requires.picked.2

pub returns-then-not-is_enabled-clause-halt : goal.returns-then-not-is_enabled-clause-halt
returns-then-not-is_enabled-clause-halt c = (
  are-picked c.args.turn.now c.args.s.now c.args.step.now c.args.scratch.now c.requires.ready c.requires.picked.0 c.args.picks.now
      c.requires.picked.1 c.requires.picked.2,
  λ enabled. false≢true (c.if-not-is_enabled.ensures.enabled.1
      ((enabled-so c.args.turn.now c.args.s.now c.args.step.now c.args.scratch.now c.requires.ready c.requires.picked.0 c.args.picks.now
      c.requires.picked.1 c.requires.picked.2).1 enabled)),
)

pub returns-then-not-has_room-clause-halt : goal.returns-then-not-has_room-clause-halt
returns-then-not-has_room-clause-halt c = (
  are-picked c.args.turn.now c.args.s.now c.args.step.now c.args.scratch.now c.requires.ready c.requires.picked.0 c.args.picks.now
      c.requires.picked.1 c.requires.picked.2,
  (enabled-so c.args.turn.now c.args.s.now c.args.step.now c.args.scratch.now c.requires.ready c.requires.picked.0 c.args.picks.now
      c.requires.picked.1 c.requires.picked.2).0 (c.if-not-is_enabled.ensures.enabled.0 refl),
  λ room. false≢true (c.if-not-has_room.ensures.1 room),
)

pub act-requires : goal.act-requires
act-requires c = record {
  can = subst (CanTurn c.args.turn.now c.args.s.now c.args.picks.now c.args.step.now) (sym c.is_enabled.ensures.scratch)
      (can-turn c.args.turn.now c.args.s.now c.args.step.now c.args.scratch.now c.requires.ready c.requires.picked.0 c.args.picks.now
      c.requires.picked.1 c.requires.picked.2 (c.if-not-has_room.ensures.0 refl) (c.if-not-is_enabled.ensures.enabled.0 refl));
}

pub returns-clause-moved : goal.returns-clause-moved
returns-clause-moved c =
    IfOk-weaker c.act.result (Acts c.args.turn.now c.args.s.now c.args.picks.now c.args.step.now) (Turns c.args.turn.now c.args.s.now c.args.step.now)
    (λ m made. turns c.args.turn.now c.args.s.now c.args.step.now c.args.scratch.now c.requires.ready c.requires.picked.0 c.args.picks.now
    c.requires.picked.1 c.requires.picked.2 m (c.if-not-has_room.ensures.0 refl) (c.if-not-is_enabled.ensures.enabled.0 refl) made)
    c.act.ensures.acts

pub returns-clause-halt : goal.returns-clause-halt
returns-clause-halt c =
    IfErr-weaker c.act.result (StaysFor (action_in c.args.turn.now) (assignment_of c.args.picks.now) c.args.s.now c.args.step.now.values)
    (TurnFails c.args.turn.now c.args.s.now c.args.step.now)
    (λ e stays. fails c.args.turn.now c.args.s.now c.args.step.now c.args.scratch.now c.requires.ready c.requires.picked.0 c.args.picks.now
    c.requires.picked.1 c.requires.picked.2 e (c.if-not-has_room.ensures.0 refl) (c.if-not-is_enabled.ensures.enabled.0 refl) stays)
    c.act.ensures.halt
