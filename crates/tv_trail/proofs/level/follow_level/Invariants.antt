use Rattle.std.proofs.Common.{ℕ, ◌≡◌, ◌<◌, ◌≤◌, false}
use Rattle.tv_trail_laws.specs.Met.{IsFromBelow}
use Rattle.tv_work.specs.Task.{task_of}
use Rattle.tv_trail.specs.Asked.{goal_of}
use Rattle.tv_trail.specs.Searched.{IsState, Meets, AnswersHere}
use Rattle.tv_trail.proofs.level.follow_level.Given as goal

abbrev pub invariant-loop-place : goal.invariant-loop-place
invariant-loop-place l = record {
  kept : IsState (task_of l.x.task) l.search;
  meets : Meets (IsFromBelow l.to) l.initial.search l.search;
  passed : (place : ℕ) → l.from ≤ place → place < l.place
      → AnswersHere (task_of l.x.task) (goal_of l.x) place l.search.found false;
  same : l.stepper ≡ l.initial.stepper;
}
