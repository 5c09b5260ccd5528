use Rattle.std.proofs.Common.{length}
use Rattle.tv_replay_step.proofs.picks.+put_picked.Given as goal

abbrev pub decreases-put_picked : goal.decreases-put_picked
decreases-put_picked l = length l.picks.now
