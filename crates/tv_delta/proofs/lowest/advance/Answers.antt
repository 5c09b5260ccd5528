use Rattle.tv_delta.proofs.LowestLaws.{waits_on}
use Rattle.tv_delta.proofs.lowest.advance.Goals as goal

pub conclude-requires-clause-waiting : goal.conclude-requires-clause-waiting
conclude-requires-clause-waiting c =
    waits_on c.args.o.now c.args.w c.next_of.new.w c.requires.waiting c.next_of.ensures.same.0 c.next_of.ensures.same.2
    c.next_of.ensures.no_more

pub look-requires-clause-waiting : goal.look-requires-clause-waiting
look-requires-clause-waiting c =
    waits_on c.args.o.now c.args.w c.next_of.new.w c.requires.waiting c.next_of.ensures.same.0 c.next_of.ensures.same.2
    c.next_of.ensures.no_more
