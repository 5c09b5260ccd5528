use Rattle.std.proofs.Common.{length}
use Rattle.tv_focus_walk.proofs.narrow.+are_many.Given as goal

abbrev pub decreases-are_many : goal.decreases-are_many
decreases-are_many l = length l.sets.now
