use Rattle.std.proofs.Common.{length}
use Rattle.tv_focus_walk.proofs.apart.+is_apart_behind.Given as goal

abbrev pub decreases-is_apart_behind : goal.decreases-is_apart_behind
decreases-is_apart_behind l = length l.anchors.now
