use Rattle.std.proofs.Common.{◌≤◌, ◌-◌, length}
use Rattle.tv_quantifiers.proofs.order.compare_counts.Given as goal

abbrev pub invariant-loop-j : goal.invariant-loop-j
invariant-loop-j l = (l.i ≤ 64) × (l.u ≤ length l.row)

abbrev pub decreases-loop-j : goal.decreases-loop-j
decreases-loop-j l = 64 - l.i
