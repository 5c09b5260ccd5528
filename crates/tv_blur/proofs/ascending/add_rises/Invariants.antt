use Rattle.std.proofs.Common.{◌≤◌, ◌-◌, length}
use Rattle.tv_blur.specs.Rising.{AddsRises}
use Rattle.tv_blur.proofs.ascending.add_rises.Given as goal

abbrev pub invariant-loop-u : goal.invariant-loop-u
invariant-loop-u l = AddsRises l.values l.from l.fn.rises l.rises × (l.from ≤ length l.fn.rises)

abbrev pub decreases-loop-u : goal.decreases-loop-u
decreases-loop-u l = length l.values - l.from
