use Rattle.std.proofs.Common.{length}
use Rattle.tv_coerce_members.proofs.members.+wait_of.Given as goal

abbrev pub decreases-wait_of : goal.decreases-wait_of
decreases-wait_of l = length l.vars.now
