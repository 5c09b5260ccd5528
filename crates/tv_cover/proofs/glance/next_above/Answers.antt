use Rattle.tv_cover.proofs.GlanceLaws.{above-more}
use Rattle.tv_cover.proofs.glance.next_above.Goals as goal

pub loop-i-preserved : goal.loop-i-preserved
loop-i-preserved c =
    above-more c.args.row.now c.args.others.now c.args.from c.loop-i.i c.index-others-i.result c.index-others-i.is
    c.loop-i-test.true
    (λ under. absurd (cc (c.may_lie_under.ensures under)))
    c.loop-i.invariant
