use Rattle.tv_embed.proofs.FitLaws.{FitsSoFar-push, FitsSoFar-joins}
use Rattle.tv_embed.proofs.maps.fits_next.Goals as goal

pub returns-then-is_candidate : goal.returns-then-is_candidate
returns-then-is_candidate c = (
  λ joins.
      FitsSoFar-push c.args.small.now c.args.large.now c.args.images.now c.args.w c.requires.so_far c.requires.in_large
      (c.is_candidate.ensures.0 c.if-is_candidate.true) (c.joins_up.ensures.0 joins),
  λ fits. c.joins_up.ensures.1 (FitsSoFar-joins c.args.small.now c.args.large.now c.args.images.now c.args.w fits),
)
