use Rattle.std.proofs.Common.{List, subst, sym}
use Rattle.std.specs.Prelude.{Any}
use Rattle.tv_kleene.specs.declared.K3.{K3}
use Rattle.tv_cover.specs.Glance.{LieUnder}
use Rattle.tv_cover.proofs.glance.lie_under_others.Goals as goal

pub returns-then-not-lies_under_some : goal.returns-then-not-lies_under_some
returns-then-not-lies_under_some c = λ all.
    absurd (cc (c.lies_under_some.ensures
    (subst (λ (row : List K3). Any (LieUnder row) c.args.others.now) (sym c.index-rows-u.is)
    (all c.loop-u.u c.index-rows-u.result c.loop-u-test.true))))
