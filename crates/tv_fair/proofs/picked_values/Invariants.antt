-- The values of the variables so far.
use Rattle.tv_concrete.specs.Lists.{assignment_of}
use Rattle.tv_fair.proofs.Fresh.{ValuesSoFar}
use Rattle.tv_fair.proofs.picked_values.Given as goal

abbrev pub invariant-loop-v : goal.invariant-loop-v
invariant-loop-v l = ValuesSoFar l.all.items (assignment_of l.picked) l.v
