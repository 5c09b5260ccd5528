use Rattle.std.proofs.Common.{length}
use Rattle.tv_focus_walk.proofs.apart.+is_apart_before.Given as goal

abbrev pub decreases-is_apart_before : goal.decreases-is_apart_before
decreases-is_apart_before l = length l.anchors.now
