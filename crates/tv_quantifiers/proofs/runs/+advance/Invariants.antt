use Rattle.std.proofs.Common.{length}
use Rattle.tv_quantifiers.proofs.runs.+advance.Given as goal

abbrev pub decreases-advance : goal.decreases-advance
decreases-advance l = length l.levels.now
