use Rattle.std.proofs.Common.{length}
use Rattle.tv_delta.proofs.uses.+has_flagged.Given as goal

abbrev pub decreases-has_flagged : goal.decreases-has_flagged
decreases-has_flagged l = length l.list.now
