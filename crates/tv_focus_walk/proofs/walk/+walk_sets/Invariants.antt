-- The sets that are left decide, then those of the first individual.
use Rattle.std.proofs.Common.{length, ◌+◌, ◌*◌}
use Rattle.tv_focus_walk.proofs.walk.+walk_sets.Given as goal

abbrev pub decreases-walk_sets : goal.decreases-walk_sets
decreases-walk_sets l = 73786976294838206464 * length l.sets.now

abbrev pub decreases-walk_one : goal.decreases-walk_one
decreases-walk_one l = 73786976294838206464 * length l.rest.now + (2 * length l.first.now + 3)

abbrev pub decreases-walk_with : goal.decreases-walk_with
decreases-walk_with l = 73786976294838206464 * length l.rest.now + 2

abbrev pub decreases-walk_on : goal.decreases-walk_on
decreases-walk_on l = 73786976294838206464 * length l.rest.now + 1
