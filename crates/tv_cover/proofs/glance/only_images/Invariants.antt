use Rattle.tv_cover.proofs.GlanceLaws.{AreImagesTo}
use Rattle.tv_cover.proofs.glance.only_images.Given as goal

abbrev pub invariant-loop-row : goal.invariant-loop-row
invariant-loop-row l = AreImagesTo l.rows l.others l.row-index l.images.items
