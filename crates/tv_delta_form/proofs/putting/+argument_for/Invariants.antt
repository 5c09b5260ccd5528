use Rattle.std.proofs.Common.{length}
use Rattle.tv_delta_form.proofs.putting.+argument_for.Given as goal

abbrev pub decreases-argument_for : goal.decreases-argument_for
decreases-argument_for l = length l.m.now
