use Rattle.tv_delta.proofs.LowestLaws.{last_popped, rest_popped}
use Rattle.tv_delta.proofs.lowest.finish.Goals as goal

pub advance-requires-clause-waiting : goal.advance-requires-clause-waiting
advance-requires-clause-waiting c =
    let popped = rw c.in-Some.is at c.pop.ensures.items
    in last_popped c.args.o.now c.loop-w.stack.items c.pop.new.self.items c.in-Some.w popped c.loop-w.invariant.stack

pub advance-requires-clause-stack : goal.advance-requires-clause-stack
advance-requires-clause-stack c =
    let popped = rw c.in-Some.is at c.pop.ensures.items
    in rest_popped c.args.o.now c.loop-w.stack.items c.pop.new.self.items c.in-Some.w popped c.loop-w.invariant.stack
