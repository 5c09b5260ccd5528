use Rattle.std.proofs.Common.{◌≡◌, List, ap, subst, sym, ◌∙◌}
use Rattle.std.specs.Prelude.{All, Any}
use Rattle.tv_kleene.specs.declared.K3.{K3}
use Rattle.tv_cover.specs.Glance.{GlanceForm, LieUnder}
use Rattle.tv_cover.proofs.glance.Glance.may_embed.Goals as goal

pub returns-then-may_lie_under : goal.returns-then-may_lie_under
returns-then-may_lie_under c = λ may.
    let same : c.as_slice-rows.result.now ≡ c.args.self.now.unary
    = c.as_slice-rows.ensures.value ∙ ap (λ (g : GlanceForm). g.unary) c.self.view_is
    in let other : c.as_slice-others.result.now ≡ c.args.above.now.unary
    = c.as_slice-others.ensures.value ∙ ap (λ (g : GlanceForm). g.unary) c.above.view_is
    in c.may_go_onto.ensures
    (subst (λ (rows : List (List K3)). All (λ row. Any (LieUnder row) c.as_slice-others.result.now) rows) (sym same)
    (subst (λ (others : List (List K3)). All (λ row. Any (LieUnder row) others) c.args.self.now.unary) (sym other) may.into))
    (subst (λ (others : List (List K3)). All (λ x. Any (λ row. LieUnder row x) c.as_slice-rows.result.now) others) (sym other)
    (subst (λ (rows : List (List K3)). All (λ x. Any (λ row. LieUnder row x) rows) c.args.above.now.unary) (sym same) may.onto))

pub returns-else-may_lie_under : goal.returns-else-may_lie_under
returns-else-may_lie_under c = λ may.
    c.may_lie_under.ensures
    (subst (λ (g : GlanceForm). LieUnder g.nullary c.above.inside.nullary) (sym c.self.view_is)
    (subst (λ (g : GlanceForm). LieUnder c.args.self.now.nullary g.nullary) (sym c.above.view_is) may.nullary))
