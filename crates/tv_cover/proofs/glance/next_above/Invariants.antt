use Rattle.std.proofs.Common.{ℕ, ◌<◌, ◌≤◌, [], get_or}
use Rattle.tv_cover.specs.Glance.{LieUnder}
use Rattle.tv_cover.proofs.glance.next_above.Given as goal

abbrev pub invariant-loop-i : goal.invariant-loop-i
invariant-loop-i l = (w : ℕ) → l.from ≤ w → w < l.i → ¬ LieUnder l.row (get_or l.others w [])
