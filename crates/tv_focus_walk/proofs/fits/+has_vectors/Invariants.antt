use Rattle.std.proofs.Common.{length}
use Rattle.tv_focus_walk.proofs.fits.+has_vectors.Given as goal

abbrev pub decreases-has_vectors : goal.decreases-has_vectors
decreases-has_vectors l = length l.set.now
