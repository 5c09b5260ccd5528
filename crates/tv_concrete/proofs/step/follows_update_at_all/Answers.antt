-- Each tuple so far follows the update.
use Rattle.std.proofs.Common.{map}
use Rattle.tv_model.specs.Program.{update_of}
use Rattle.tv_concrete.specs.Steps.{FollowsIn}
use Rattle.tv_concrete.proofs.Every.{every-more, every-false, every-true}
use Rattle.tv_concrete.proofs.step.follows_update_at_all.Goals as goal

pub returns-then-not-follows_update : goal.returns-then-not-follows_update
returns-then-not-follows_update c =
    every-false (FollowsIn c.args.step.now c.args.q (map update_of c.args.updates.now)) c.args.all.now
    c.loop-tuple.tuple-index c.tuple-item.result c.loop-tuple-test.true c.tuple-item.is c.if-not-follows_update.ensures

pub loop-tuple-preserved : goal.loop-tuple-preserved
loop-tuple-preserved c =
    every-more (FollowsIn c.args.step.now c.args.q (map update_of c.args.updates.now)) c.args.all.now
    c.loop-tuple.tuple-index c.tuple-item.result c.loop-tuple-test.true c.tuple-item.is c.loop-tuple.invariant
    c.if-not-follows_update.ensures

pub returns : goal.returns
returns c =
    every-true (FollowsIn c.args.step.now c.args.q (map update_of c.args.updates.now)) c.args.all.now
    c.loop-tuple.tuple-index c.loop-tuple-test.false c.loop-tuple.invariant
