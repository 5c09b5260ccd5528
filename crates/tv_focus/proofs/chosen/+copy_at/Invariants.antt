use Rattle.std.proofs.Common.{length}
use Rattle.tv_focus.proofs.chosen.+copy_at.Given as goal

abbrev pub decreases-copy_at : goal.decreases-copy_at
decreases-copy_at l = length l.choice.now
