use Rattle.std.proofs.Common.{ℕ, ◌<◌}
use Rattle.tv_embed.specs.Fits.{ValuesJoinUp}
use Rattle.tv_embed.proofs.fits.joins_up.Given as goal

abbrev pub invariant-loop-p : goal.invariant-loop-p
invariant-loop-p l = (q : ℕ) → q < l.p → ValuesJoinUp l.small l.large l.images l.w q
