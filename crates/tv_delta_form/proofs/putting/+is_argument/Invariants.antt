use Rattle.std.proofs.Common.{length}
use Rattle.tv_delta_form.proofs.putting.+is_argument.Given as goal

abbrev pub decreases-is_argument : goal.decreases-is_argument
decreases-is_argument l = length l.m.now
