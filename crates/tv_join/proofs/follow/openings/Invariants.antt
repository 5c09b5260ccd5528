use Rattle.std.proofs.Common.{◌≡◌, take}
use Rattle.tv_join.specs.Stepped.{AreOpenings}
use Rattle.tv_work.specs.Task.{task_of}
use Rattle.tv_join.proofs.follow.openings.Given as goal

abbrev pub invariant-loop-s : goal.invariant-loop-s
invariant-loop-s l = record {
  found : AreOpenings (task_of l.x) (take l.s-index l.x.initial.now) l.found.items;
  same : l.stepper ≡ l.initial.stepper;
}
