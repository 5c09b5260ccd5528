use Rattle.tv_coerce_sets.proofs.Turning.{next-told_row}
use Rattle.tv_coerce_sets.proofs.turned.turned_rows.Goals as goal

pub loop-u-preserved : goal.loop-u-preserved
loop-u-preserved c =
    next-told_row c.args.s.now c.args.t.now c.args.p.0 c.loop-u.u c.loop-u.turned c.turned_at-turned.result
    c.turned_at-turned.result c.turned_at-turned.ensures.there (λ x y told. told) c.loop-u.invariant
    c.turned_at-turned.ensures.here
