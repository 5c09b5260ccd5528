use Rattle.std.proofs.Common.{◌≤◌, ◌-◌}
use Rattle.tv_blur.specs.Rising.{AddsRises}
use Rattle.tv_blur.proofs.ascending.with_rises.Given as goal

abbrev pub invariant-loop-u : goal.invariant-loop-u
invariant-loop-u l = AddsRises l.values l.from l.fn.rises l.told × (l.from ≤ l.size - 1)

abbrev pub decreases-loop-u : goal.decreases-loop-u
decreases-loop-u l = l.size - l.from
