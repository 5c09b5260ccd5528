use Rattle.std.proofs.Common.{length}
use Rattle.tv_focus.proofs.sets.+push_sets_prefixed.Given as goal

abbrev pub decreases-push_sets_prefixed : goal.decreases-push_sets_prefixed
decreases-push_sets_prefixed l = length l.rest.now
