use Rattle.std.proofs.Common.{length}
use Rattle.tv_focus_walk.proofs.apart.+is_one_apart.Given as goal

abbrev pub decreases-is_one_apart : goal.decreases-is_one_apart
decreases-is_one_apart l = length l.set.now
