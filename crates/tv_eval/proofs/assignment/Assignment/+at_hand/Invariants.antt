use Rattle.std.proofs.Common.{length}
use Rattle.tv_eval.proofs.assignment.Assignment.+at_hand.Given as goal

abbrev pub decreases-at_hand : goal.decreases-at_hand
decreases-at_hand l = length l.levels.now
