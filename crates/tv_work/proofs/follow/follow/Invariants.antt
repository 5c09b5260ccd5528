use Rattle.std.proofs.Common.{ℕ, ◌≡◌, take}
use Rattle.std.specs.Prelude.{All}
use Rattle.tv_work.specs.Explored.{IsSearchState, AreSaid, Advances, DoesAlong}
use Rattle.tv_work.specs.Task.{task_of}
use Rattle.tv_work.proofs.follow.follow.Given as goal

abbrev pub invariant-loop-edge : goal.invariant-loop-edge
invariant-loop-edge l = record {
  kept : IsSearchState (task_of l.x) l.search;
  said : AreSaid (task_of l.x) l.search.listing l.told;
  advances : Advances l.initial.search l.initial.told l.search l.told;
  done : All (λ (edge : ℕ). DoesAlong (task_of l.x) l.w edge l.initial.search l.search l.told)
      (take l.edge-index l.edge-items);
  same : l.stepper ≡ l.initial.stepper;
}
