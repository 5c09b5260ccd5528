-- The sets that are left decide, then those of the first individual.
use Rattle.std.proofs.Common.{length, ◌+◌, ◌*◌}
use Rattle.tv_focus.proofs.chosen.+choose.Given as goal

abbrev pub decreases-choose : goal.decreases-choose
decreases-choose l = 73786976294838206464 * length l.sets.now

abbrev pub decreases-choose_one : goal.decreases-choose_one
decreases-choose_one l = 73786976294838206464 * length l.rest.now + (2 * length l.first.now + 2)

abbrev pub decreases-choose_with : goal.decreases-choose_with
decreases-choose_with l = 73786976294838206464 * length l.rest.now + 1
