use Rattle.std.proofs.Common.{length}
use Rattle.tv_delta_form.proofs.putting.+captures.Given as goal

abbrev pub decreases-captures : goal.decreases-captures
decreases-captures l = length l.m.now
