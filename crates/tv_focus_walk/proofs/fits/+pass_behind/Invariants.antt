use Rattle.std.proofs.Common.{length}
use Rattle.tv_focus_walk.proofs.fits.+pass_behind.Given as goal

abbrev pub decreases-pass_behind : goal.decreases-pass_behind
decreases-pass_behind l = length l.anchors.now
