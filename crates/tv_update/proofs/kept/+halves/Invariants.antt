use Rattle.std.proofs.Common.{length}
use Rattle.tv_update.proofs.kept.+halves.Given as goal

abbrev pub decreases-halves : goal.decreases-halves
decreases-halves l = length l.values.now
