use Rattle.std.proofs.Common.{length}
use Rattle.tv_compiled.proofs.same.+are_same_picks.Given as goal

abbrev pub decreases-are_same_picks : goal.decreases-are_same_picks
decreases-are_same_picks l = length l.a.now
