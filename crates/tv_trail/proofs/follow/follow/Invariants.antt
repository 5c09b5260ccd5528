use Rattle.std.proofs.Common.{ℕ, ◌≡◌, false, take}
use Rattle.std.specs.Prelude.{All}
use Rattle.tv_work.specs.Task.{task_of}
use Rattle.tv_trail.specs.Searched.{IsState, Meets, IsFrom, AnswersAlong}
use Rattle.tv_trail.proofs.follow.follow.Given as goal

abbrev pub invariant-loop-edge : goal.invariant-loop-edge
invariant-loop-edge l = record {
  kept : IsState (task_of l.x.task) l.search;
  meets : Meets (IsFrom l.place) l.initial.search l.search;
  along : All (λ (edge : ℕ). AnswersAlong (task_of l.x.task) l.x.goal l.place edge l.search.found false)
      (take l.edge-index l.edge-items);
  same : l.stepper ≡ l.initial.stepper;
}
