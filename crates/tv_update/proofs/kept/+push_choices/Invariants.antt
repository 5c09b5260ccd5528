use Rattle.std.proofs.Common.{◌+◌, ◌*◌, length}
use Rattle.tv_update.proofs.kept.+push_choices.Given as goal

abbrev pub decreases-push_choices : goal.decreases-push_choices
decreases-push_choices l = 2 * length l.values.now

abbrev pub decreases-push_with : goal.decreases-push_with
decreases-push_with l = 2 * length l.later.now + 1
