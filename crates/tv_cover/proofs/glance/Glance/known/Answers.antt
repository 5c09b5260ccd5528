use Rattle.tv_cover.proofs.GlanceLaws.{known-none}
use Rattle.tv_cover.proofs.glance.Glance.known.Goals as goal

pub loop-place-init : goal.loop-place-init
loop-place-init c = known-none c.args.self.now c.of_no-known.result c.of_no-known.ensures
