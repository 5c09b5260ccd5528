use Rattle.std.proofs.Common.{ℕ, ◌≡◌, ◌≤◌, ◌-◌, length}
use Rattle.tv_trail_laws.specs.Met.{IsLevel}
use Rattle.tv_work.specs.Task.{task_of}
use Rattle.tv_trail.specs.Asked.{goal_of}
use Rattle.tv_trail.specs.Searched.{IsState}
use Rattle.tv_trail.proofs.level.find.Given as goal

abbrev pub invariant-loop-from : goal.invariant-loop-from
invariant-loop-from l = record {
  kept : IsState (task_of l.x.task) l.search;
  within : l.from ≤ length l.search.found;
  level : (depth : ℕ) × IsLevel (task_of l.x.task) (goal_of l.x) l.search.found l.from depth;
  same : l.stepper ≡ l.initial.stepper;
}

abbrev pub decreases-loop-from : goal.decreases-loop-from
decreases-loop-from l = l.x.task.max - l.from
