use Rattle.std.proofs.Common.{◌≡◌, ◌+◌, ◌-◌, length}
use Rattle.tv_work.specs.Explored.{IsSearchState, AreSaid, AreDone, KeepsListed}
use Rattle.tv_work.specs.Task.{task_of}
use Rattle.tv_work.proofs.follow.follow_all.Given as goal

abbrev pub invariant-loop-w : goal.invariant-loop-w
invariant-loop-w l = record {
  kept : IsSearchState (task_of l.x) l.search;
  said : AreSaid (task_of l.x) l.search.listing l.told;
  listed : KeepsListed l.initial.search.listing l.search.listing;
  done : AreDone (task_of l.x) l.search l.told;
  same : l.stepper ≡ l.initial.stepper;
}

abbrev pub decreases-loop-w : goal.decreases-loop-w
decreases-loop-w l = (l.x.max - l.search.count) + length l.search.waiting
