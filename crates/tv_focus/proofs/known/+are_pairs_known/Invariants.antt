use Rattle.std.proofs.Common.{length}
use Rattle.tv_focus.proofs.known.+are_pairs_known.Given as goal

abbrev pub decreases-are_pairs_known : goal.decreases-are_pairs_known
decreases-are_pairs_known l = length l.anchors.now
