use Rattle.std.proofs.Common.{length}
use Rattle.tv_delta.proofs.atoms.+delta_by_update.Given as goal

abbrev pub decreases-delta_by_update : goal.decreases-delta_by_update
decreases-delta_by_update l = length l.updates.now
