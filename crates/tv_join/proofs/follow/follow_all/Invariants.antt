use Rattle.std.proofs.Common.{◌≡◌, length}
use Rattle.tv_work.specs.Task.{task_of}
use Rattle.tv_join.proofs.Following.{AreFollowedBut}
use Rattle.tv_join.proofs.follow.follow_all.Given as goal

abbrev pub invariant-loop-w : goal.invariant-loop-w
invariant-loop-w l = record {
  followed : AreFollowedBut (task_of l.x) l.joins.nodes l.fn.places l.left
      (record { found = l.found.items; values = l.values }) l.initial.values;
  same : l.stepper ≡ l.initial.stepper;
}

abbrev pub decreases-loop-w : goal.decreases-loop-w
decreases-loop-w l = length l.left
