use Rattle.std.proofs.Common.{length}
use Rattle.tv_delta_form.proofs.putting.+keep_under.Given as goal

abbrev pub decreases-keep_under : goal.decreases-keep_under
decreases-keep_under l = length l.m.now
