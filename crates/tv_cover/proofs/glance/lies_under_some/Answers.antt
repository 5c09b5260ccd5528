use Rattle.tv_cover.proofs.GlanceLaws.{none-lie}
use Rattle.tv_cover.proofs.glance.lies_under_some.Goals as goal

pub returns : goal.returns
returns c = λ any.
    absurd (none-lie c.args.row.now c.args.others.now c.loop-other.other-index c.loop-other-test.false c.loop-other.invariant any)
