use Rattle.std.proofs.Common.{length}
use Rattle.tv_heap_steps.proofs.chosen.+all_chosen.Given as goal

abbrev pub decreases-all_chosen : goal.decreases-all_chosen
decreases-all_chosen l = length l.picks.now
