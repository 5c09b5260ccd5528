use Rattle.std.proofs.Common.{length}
use Rattle.tv_focus.proofs.sets.+push_singles.Given as goal

abbrev pub decreases-push_singles : goal.decreases-push_singles
decreases-push_singles l = length l.vectors.now
