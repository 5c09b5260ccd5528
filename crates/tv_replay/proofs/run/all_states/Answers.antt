use Rattle.std.proofs.Common.{List, get_or, sym, ap, subst, ◌∙◌, ◌+◌, arith}
use Rattle.tv_replay_laws.specs.declared.state.State.{State}
use Rattle.tv_replay.specs.Judging.{CanJudge}
use Rattle.tv_replay.proofs.Going.{SoFar, all-made, goes-more, stuck}
use Rattle.tv_replay.proofs.run.all_states.Goals as goal

pub returns-in-Err-clause-fault : goal.returns-in-Err-clause-fault
returns-in-Err-clause-fault c =
    stuck c.args.judge.now c.args.above.now c.args.start.now c.args.moves.now c.loop-number.number c.loop-number.states c.loop-number.invariant.0
    c.index-as_slice-number.result c.index-moves-number.result c.in-Err.halt c.fault.result
    (c.index-as_slice-number.is ∙ ap (λ (xs : List State). get_or xs c.loop-number.number c.index-as_slice-number.result) c.as_slice.ensures)
    (omega (arith, c.loop-number-test.true)) c.index-moves-number.is c.in-Err.ensures.halt c.fault.ensures

pub loop-number-preserved : goal.loop-number-preserved
loop-number-preserved c = (
  subst (SoFar c.args.judge.now c.args.above.now c.args.start.now c.args.moves.now (c.loop-number.number + 1)) (sym c.in_ok-push-in-Ok.ensures)
      (goes-more c.args.judge.now c.args.above.now c.args.start.now c.args.moves.now c.loop-number.number c.loop-number.states
      c.loop-number.invariant.0 c.index-as_slice-number.result c.index-moves-number.result c.in-Ok.state
      (c.index-as_slice-number.is ∙ ap (λ (xs : List State). get_or xs c.loop-number.number c.index-as_slice-number.result) c.as_slice.ensures)
      (omega (arith, c.loop-number-test.true)) c.index-moves-number.is c.in-Ok.ensures.next c.in-Ok.ensures.at),
  subst (CanJudge c.args.judge.now) (sym c.next_state.ensures.scratch) c.loop-number.invariant.1,
)

pub returns-clause-states : goal.returns-clause-states
returns-clause-states c =
    all-made c.args.judge.now c.args.above.now c.args.start.now c.args.moves.now c.loop-number.number c.loop-number.states
    c.loop-number.invariant.0 (omega (arith, c.loop-number-test.false))
