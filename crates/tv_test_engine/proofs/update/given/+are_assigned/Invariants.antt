use Rattle.std.proofs.Common.{length}
use Rattle.tv_test_engine.proofs.update.given.+are_assigned.Given as goal

abbrev pub decreases-are_assigned : goal.decreases-are_assigned
decreases-are_assigned l = length l.vars.now
