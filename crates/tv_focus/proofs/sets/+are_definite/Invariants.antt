use Rattle.std.proofs.Common.{length}
use Rattle.tv_focus.proofs.sets.+are_definite.Given as goal

abbrev pub decreases-are_definite : goal.decreases-are_definite
decreases-are_definite l = length l.values.now
