use Rattle.std.proofs.Common.{◌≡◌, take}
use Rattle.std.specs.Prelude.{All}
use Rattle.tv_heap_steps.specs.Steps.{IsPassed, IsSmallStep}
use Rattle.tv_heap_steps.proofs.along.steps_by.Given as goal

abbrev pub invariant-loop-chosen : goal.invariant-loop-chosen
invariant-loop-chosen l = record {
  each : All (IsSmallStep l.walker l.edge l.s) l.all.items;
  passed : All (IsPassed l.walker l.edge l.s l.all.items) (take l.chosen-index l.lists);
  scratch : l.scratch ≡ l.initial.scratch;
}
