use Rattle.std.proofs.Common.{length}
use Rattle.tv_delta_form.proofs.putting.+among.Given as goal

abbrev pub decreases-among : goal.decreases-among
decreases-among l = length l.vars.now
