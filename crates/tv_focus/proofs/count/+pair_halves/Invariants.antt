use Rattle.std.proofs.Common.{length}
use Rattle.tv_focus.proofs.count.+pair_halves.Given as goal

abbrev pub decreases-pair_halves : goal.decreases-pair_halves
decreases-pair_halves l = length l.anchors.now
