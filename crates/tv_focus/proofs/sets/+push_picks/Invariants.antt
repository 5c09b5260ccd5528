use Rattle.std.proofs.Common.{length}
use Rattle.tv_focus.proofs.sets.+push_picks.Given as goal

abbrev pub decreases-push_picks : goal.decreases-push_picks
decreases-push_picks l = length l.vectors.now
