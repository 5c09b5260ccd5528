use Rattle.std.proofs.Common.{length}
use Rattle.tv_delta.specs.Opening.{AreKnownAt}
use Rattle.tv_delta.proofs.lowest.work_out.Given as goal

abbrev pub invariant-loop-a : goal.invariant-loop-a
invariant-loop-a l = AreKnownAt l.o l.memo.entries.items

abbrev pub decreases-loop-a : goal.decreases-loop-a
decreases-loop-a l = length l.atoms.items
