use Rattle.tv_cover.proofs.GlanceLaws.{none-over}
use Rattle.tv_cover.proofs.glance.lies_over_some.Goals as goal

pub returns : goal.returns
returns c = λ any.
    absurd (none-over c.args.other.now c.args.rows.now c.loop-row.row-index c.loop-row-test.false c.loop-row.invariant any)
