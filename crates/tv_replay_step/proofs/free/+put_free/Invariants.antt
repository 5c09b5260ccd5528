use Rattle.std.proofs.Common.{length}
use Rattle.tv_replay_step.proofs.free.+put_free.Given as goal

abbrev pub decreases-put_free : goal.decreases-put_free
decreases-put_free l = length l.updates.now
