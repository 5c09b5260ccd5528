use Rattle.std.proofs.Common.{length}
use Rattle.tv_focus.proofs.aim.+split_by.Given as goal

abbrev pub decreases-split_by : goal.decreases-split_by
decreases-split_by l = length l.given.now
