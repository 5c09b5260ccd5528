use Rattle.std.proofs.Common.{refl}
use Rattle.tv_replay.proofs.Readiness.{moved-at}
use Rattle.tv_replay.proofs.states.next_state.Goals as goal

pub returns-clause-next : goal.returns-clause-next
returns-clause-next c = record {
  moves = c.in_ok-node.ensures.moved.moves;
  broken = c.in_ok-node.ensures.moved.broken;
  initial = refl;
  judged = record { rule = c.in_ok-rule.ensures.rule; listed = c.in_ok-rule.ensures.listed };
}

pub returns-clause-at : goal.returns-clause-at
returns-clause-at c =
    moved-at c.args.judge.now c.args.scratch.now c.requires.judge c.args.step.now c.args.before.now c.requires.before c.in_ok-node.field-0
    c.in_ok-node.ensures.moved
