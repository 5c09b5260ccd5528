use Rattle.std.proofs.Common.{length}
use Rattle.tv_focus.proofs.put.+put_set.Given as goal

abbrev pub decreases-put_set : goal.decreases-put_set
decreases-put_set l = length l.set.now
