use Rattle.std.proofs.Common.{ℕ, ◌≡◌, take}
use Rattle.std.specs.Prelude.{All}
use Rattle.tv_join.specs.State.{IsAmongFound}
use Rattle.tv_join.specs.Stepped.{Gathers, IsFollowedAlong}
use Rattle.tv_work.specs.Task.{task_of}
use Rattle.tv_join.proofs.Following.{AreAside}
use Rattle.tv_join.proofs.follow.follow.Given as goal

abbrev pub invariant-loop-edge : goal.invariant-loop-edge
invariant-loop-edge l = record {
  gathers : Gathers (task_of l.x) l.joins.nodes l.initial.found.items l.found.items;
  aside : AreAside (take l.edge-index l.edge-items) l.w.at l.initial.values l.values;
  followed : All (λ (edge : ℕ). IsFollowedAlong (task_of l.x) l.joins.nodes (IsAmongFound l.found.items) l.values l.w edge)
      (take l.edge-index l.edge-items);
  same : l.stepper ≡ l.initial.stepper;
}
