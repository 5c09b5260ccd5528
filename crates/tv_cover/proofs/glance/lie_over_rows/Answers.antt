use Rattle.std.proofs.Common.{List, subst, sym}
use Rattle.std.specs.Prelude.{Any}
use Rattle.tv_kleene.specs.declared.K3.{K3}
use Rattle.tv_cover.specs.Glance.{LieUnder}
use Rattle.tv_cover.proofs.glance.lie_over_rows.Goals as goal

pub returns-then-not-lies_over_some : goal.returns-then-not-lies_over_some
returns-then-not-lies_over_some c = λ all.
    absurd (cc (c.lies_over_some.ensures
    (subst (λ (other : List K3). Any (λ row. LieUnder row other) c.args.rows.now) (sym c.index-others-w.is)
    (all c.loop-w.w c.index-others-w.result c.loop-w-test.true))))
