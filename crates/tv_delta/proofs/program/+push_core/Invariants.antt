use Rattle.std.proofs.Common.{length}
use Rattle.tv_delta.proofs.program.+push_core.Given as goal

abbrev pub decreases-push_core : goal.decreases-push_core
decreases-push_core l = length l.updates.now
