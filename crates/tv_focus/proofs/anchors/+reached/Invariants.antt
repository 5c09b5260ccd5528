use Rattle.std.proofs.Common.{length}
use Rattle.tv_focus.proofs.anchors.+reached.Given as goal

abbrev pub decreases-reached : goal.decreases-reached
decreases-reached l = length l.anchors.now
