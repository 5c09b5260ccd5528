use Rattle.tv_embed.proofs.FitLaws.{joins-taken}
use Rattle.tv_embed.proofs.fits.joins_up.Goals as goal

pub returns-then-is_taken : goal.returns-then-is_taken
returns-then-is_taken c = (
  λ e. absurd (cc),
  λ joins.
      absurd (joins-taken c.args.small.now c.args.large.now c.args.images.now c.args.w (c.is_taken.ensures.image c.if-is_taken.true)
      (c.is_taken.ensures.ordinary c.if-is_taken.true) joins),
)
