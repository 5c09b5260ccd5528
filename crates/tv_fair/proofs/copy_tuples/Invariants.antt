-- The copies so far.
use Rattle.std.proofs.Common.{◌≡◌, take}
use Rattle.tv_fair.proofs.copy_tuples.Given as goal

abbrev pub invariant-loop-tuple : goal.invariant-loop-tuple
invariant-loop-tuple l = l.all ≡ take l.tuple-index l.tuples
