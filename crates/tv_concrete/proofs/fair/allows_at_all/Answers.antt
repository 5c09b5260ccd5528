-- Each tuple so far is as the change says.
use Rattle.tv_model.specs.Program.{update_of}
use Rattle.tv_concrete.specs.Steps.{AllowsIn}
use Rattle.tv_concrete.proofs.Every.{every-more, every-false, every-true}
use Rattle.tv_concrete.proofs.fair.allows_at_all.Goals as goal

pub returns-then-not-allows_change : goal.returns-then-not-allows_change
returns-then-not-allows_change c =
    every-false (AllowsIn c.args.step.now c.args.q (update_of c.args.update.now)) c.args.all.now
    c.loop-tuple.tuple-index c.tuple-item.result c.loop-tuple-test.true c.tuple-item.is c.if-not-allows_change.ensures

pub loop-tuple-preserved : goal.loop-tuple-preserved
loop-tuple-preserved c =
    every-more (AllowsIn c.args.step.now c.args.q (update_of c.args.update.now)) c.args.all.now c.loop-tuple.tuple-index
    c.tuple-item.result c.loop-tuple-test.true c.tuple-item.is c.loop-tuple.invariant c.if-not-allows_change.ensures

pub returns : goal.returns
returns c =
    every-true (AllowsIn c.args.step.now c.args.q (update_of c.args.update.now)) c.args.all.now c.loop-tuple.tuple-index
    c.loop-tuple-test.false c.loop-tuple.invariant
