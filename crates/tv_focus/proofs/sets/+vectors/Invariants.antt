use Rattle.std.proofs.Common.{length}
use Rattle.tv_focus.proofs.sets.+vectors.Given as goal

abbrev pub decreases-vectors : goal.decreases-vectors
decreases-vectors l = length l.values.now
