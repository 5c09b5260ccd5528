use Rattle.std.proofs.Common.{take}
use Rattle.tv_embed.specs.Fits.{FitsSoFar}
use Rattle.tv_embed.proofs.maps.fits.Given as goal

abbrev pub invariant-loop-u : goal.invariant-loop-u
invariant-loop-u l = FitsSoFar l.small l.large (take l.u l.map)
