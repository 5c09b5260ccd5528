use Rattle.std.proofs.Common.{length}
use Rattle.tv_replay_judge.proofs.differing.+has_update.Given as goal

abbrev pub decreases-has_update : goal.decreases-has_update
decreases-has_update l = length l.updates.now
