use Rattle.std.proofs.Common.{length}
use Rattle.tv_focus_walk.proofs.fits.+has_choice.Given as goal

abbrev pub decreases-has_choice : goal.decreases-has_choice
decreases-has_choice l = length l.choice.now
