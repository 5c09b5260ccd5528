use Rattle.std.proofs.Common.{length}
use Rattle.tv_focus_walk.proofs.narrow.+has_yes.Given as goal

abbrev pub decreases-has_yes : goal.decreases-has_yes
decreases-has_yes l = length l.values.now
