use Rattle.std.proofs.Common.{ℕ, ◌<◌}
use Rattle.tv_embed.specs.Fits.{ValueNearFits}
use Rattle.tv_embed.proofs.fits.values_near_fit.Given as goal

abbrev pub invariant-loop-p : goal.invariant-loop-p
invariant-loop-p l = (q : ℕ) → q < l.p → ValueNearFits l.small l.large q l.u l.w
