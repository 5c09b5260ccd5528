use Rattle.std.proofs.Common.{length}
use Rattle.tv_focus.proofs.put.+put_choice.Given as goal

abbrev pub decreases-put_choice : goal.decreases-put_choice
decreases-put_choice l = length l.choice.now
