-- The value of one more variable.
use Rattle.std.proofs.Common.{◌≤◌, length, arith}
use Rattle.tv_concrete.specs.Lists.{assignment_of}
use Rattle.tv_fair.proofs.Fresh.{values-more, values-all}
use Rattle.tv_fair.proofs.picked_values.Goals as goal

pub loop-v-preserved : goal.loop-v-preserved
loop-v-preserved c =
    values-more c.loop-v.all.items c.push-in-loop-v.new.self.items (assignment_of c.args.picked) c.loop-v.v c.at.result
    (cc (c.in_ok-push-2.ensures.items)) c.at.ensures c.loop-v.invariant

pub returns : goal.returns
returns c =
    let long : length c.args.picked.places ≤ c.loop-v.v = omega (arith, c.well_formed)
    in values-all c.loop-v.all.items c.args.picked.places c.loop-v.v long c.loop-v.invariant
