-- The first update of the predicate, or none.
use Rattle.tv_concrete.proofs.StepLemmas.{update-first, update-none}
use Rattle.tv_concrete.proofs.step.find_update.Goals as goal

pub returns-then-update-q : goal.returns-then-update-q
returns-then-update-q c =
    update-first c.args.q c.args.updates.now c.loop-update.update-index c.update-item.result c.loop-update-test.true c.update-item.is
    c.loop-update.invariant c.if-update-q.true

pub returns : goal.returns
returns c = update-none c.args.q c.args.updates.now c.loop-update.update-index c.loop-update-test.false c.loop-update.invariant
