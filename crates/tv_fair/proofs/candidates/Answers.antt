-- The candidates are enough.
use Rattle.tv_concrete.specs.Lists.{assignment_of, heap_of}
use Rattle.tv_fair.proofs.Fresh.{candidates-suffice}
use Rattle.tv_fair.proofs.candidates.Goals as goal

pub returns : goal.returns
returns c =
    candidates-suffice c.in_ok-all.all.items c.extend_from_slice.new.self.items c.extend_from_slice-2.new.self.items
    c.as_slice-3.result.now c.push.new.self.items (heap_of c.args.ends.now.old.now) (heap_of c.args.ends.now.new.now)
    (assignment_of c.args.ends.now.picked)
    c.in_ok-further.further
    (cc (c.in_ok-extend_from_slice.ensures.items)) (cc (c.in_ok-extend_from_slice-2.ensures.items)) (cc)
    (cc (c.in_ok-push.ensures.items)) c.in_ok-all.ensures c.in_ok-further.ensures
