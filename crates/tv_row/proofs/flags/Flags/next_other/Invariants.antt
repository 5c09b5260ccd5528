use Rattle.std.proofs.Common.{◌-◌}
use Rattle.tv_row.proofs.flags.Flags.next_other.Given as goal

abbrev pub decreases-loop-at : goal.decreases-loop-at
decreases-loop-at l = l.self-inside.count - l.at
