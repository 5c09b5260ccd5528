use Rattle.std.proofs.Common.{◌≡◌, take}
use Rattle.std.specs.Prelude.{All}
use Rattle.tv_work.specs.Explored.{IsSearchState, IsOpenedIn}
use Rattle.tv_work.specs.Search.{Grows}
use Rattle.tv_work.specs.Task.{task_of}
use Rattle.tv_work.proofs.follow.open_all.Given as goal

abbrev pub invariant-loop-s : goal.invariant-loop-s
invariant-loop-s l = record {
  kept : IsSearchState (task_of l.x) l.search;
  grows : Grows l.initial.search l.search;
  opened : All (IsOpenedIn (task_of l.x) l.search.listing) (take l.s-index l.x.initial.now);
  same : l.stepper ≡ l.initial.stepper;
}
