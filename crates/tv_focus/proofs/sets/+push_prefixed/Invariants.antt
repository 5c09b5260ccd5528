use Rattle.std.proofs.Common.{length}
use Rattle.tv_focus.proofs.sets.+push_prefixed.Given as goal

abbrev pub decreases-push_prefixed : goal.decreases-push_prefixed
decreases-push_prefixed l = length l.rest.now
