use Rattle.std.proofs.Common.{length}
use Rattle.tv_replay_step.proofs.free.+gives_all.Given as goal

abbrev pub decreases-gives_all : goal.decreases-gives_all
decreases-gives_all l = length l.updates.now
