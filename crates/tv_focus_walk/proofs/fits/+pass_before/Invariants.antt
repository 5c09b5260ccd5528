use Rattle.std.proofs.Common.{length}
use Rattle.tv_focus_walk.proofs.fits.+pass_before.Given as goal

abbrev pub decreases-pass_before : goal.decreases-pass_before
decreases-pass_before l = length l.anchors.now
