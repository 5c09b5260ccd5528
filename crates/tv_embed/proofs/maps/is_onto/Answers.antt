use Rattle.std.proofs.Common.{below_more}
use Rattle.tv_embed.proofs.maps.is_onto.Goals as goal

pub loop-w-preserved : goal.loop-w-preserved
loop-w-preserved c = below_more _ _ c.loop-w.invariant (c.is_image.ensures.image.0 c.if-not-is_image.false)
