use Rattle.std.specs.Prelude.{All}
use Rattle.tv_delta.specs.Lowest.{IsWaiting, weight}
use Rattle.tv_delta.specs.Opening.{AreKnownAt}
use Rattle.tv_delta.proofs.lowest.finish.Given as goal

abbrev pub invariant-loop-w : goal.invariant-loop-w
invariant-loop-w l = record {
  known : AreKnownAt l.o l.memo.entries.items;
  stack : All (IsWaiting l.o) l.stack.items;
}

abbrev pub decreases-loop-w : goal.decreases-loop-w
decreases-loop-w l = weight l.stack.items
