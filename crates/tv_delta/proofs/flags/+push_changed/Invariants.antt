use Rattle.std.proofs.Common.{length}
use Rattle.tv_delta.proofs.flags.+push_changed.Given as goal

abbrev pub decreases-push_changed : goal.decreases-push_changed
decreases-push_changed l = length l.preds.now
