use Rattle.std.proofs.Common.{◌≤◌, ◌-◌, length}
use Rattle.std.specs.Prelude.{All}
use Rattle.tv_row.specs.Drawing.{IsRunOfColumns}
use Rattle.tv_row.proofs.DrawnRuns.{DrawnBefore}
use Rattle.tv_row.proofs.drawing.runs_of.Given as goal

abbrev pub invariant-loop-at : goal.invariant-loop-at
invariant-loop-at l = record {
  within : l.at ≤ length l.origins;
  each : All (IsRunOfColumns l.columns (length l.origins)) l.runs.items;
  values : DrawnBefore (record { origins = l.origins; columns = l.columns }) l.runs.items l.at;
}

abbrev pub decreases-loop-at : goal.decreases-loop-at
decreases-loop-at l = length l.origins - l.at
