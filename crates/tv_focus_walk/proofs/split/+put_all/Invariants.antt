use Rattle.std.proofs.Common.{length}
use Rattle.tv_focus_walk.proofs.split.+put_all.Given as goal

abbrev pub decreases-put_all : goal.decreases-put_all
decreases-put_all l = length l.set.now
