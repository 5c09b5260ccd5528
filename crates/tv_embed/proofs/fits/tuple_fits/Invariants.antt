use Rattle.std.proofs.Common.{ℕ, ◌<◌}
use Rattle.tv_struct.specs.TupleForm.{tuple_of}
use Rattle.tv_embed.specs.Fits.{ValueFits}
use Rattle.tv_embed.proofs.fits.tuple_fits.Given as goal

abbrev pub invariant-loop-p : goal.invariant-loop-p
invariant-loop-p l = (q : ℕ) → q < l.p → ValueFits l.small l.large q (tuple_of l.below) (tuple_of l.above)
