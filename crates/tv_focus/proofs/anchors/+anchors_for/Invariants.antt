use Rattle.std.proofs.Common.{length}
use Rattle.tv_focus.proofs.anchors.+anchors_for.Given as goal

abbrev pub decreases-anchors_for : goal.decreases-anchors_for
decreases-anchors_for l = length l.given.now
