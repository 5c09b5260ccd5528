use Rattle.std.proofs.Common.{◌≡◌, ◌<◌, List, length, ap, sym, subst, ◌∙◌}
use Rattle.tv_kleene.specs.declared.K3.{K3}
use Rattle.tv_cover.specs.Glance.{GlanceForm}
use Rattle.tv_cover.proofs.GlanceLaws.{marked-first, marked-more, marked-all}
use Rattle.tv_cover.proofs.NotedLaws.{row-at}
use Rattle.tv_cover.proofs.glance.Glance.marks.Goals as goal

pub loop-row-init : goal.loop-row-init
loop-row-init c =
    marked-first c.args.self.now c.of_yes.result _ c.known_in-marks.result c.of_yes.ensures
    (ap (λ (g : GlanceForm). g.nullary) c.self.view_is) c.known_in-marks.ensures

pub loop-row-preserved : goal.loop-row-preserved
loop-row-preserved c =
    let same : c.as_slice-row-items.result.now ≡ c.args.self.now.unary
    = c.as_slice-row-items.ensures.value ∙ ap (λ (g : GlanceForm). g.unary) c.self.view_is
    in let Inside : List (List K3) → Type 0 = λ rows. c.loop-row.row-index < length rows
    in marked-more c.args.self.now c.loop-row.row-index c.row-item.result c.loop-row.marks
    c.known_in-marks-in-loop-row.result
    (subst Inside same c.loop-row-test.true)
    (row-at c.as_slice-row-items.result.now c.args.self.now.unary c.loop-row.row-index c.row-item.result c.row-item.is
    same c.loop-row-test.true)
    c.loop-row.invariant c.known_in-marks-in-loop-row.ensures

pub returns : goal.returns
returns c = λ known are. marked-all c.args.self.now c.loop-row.row-index c.loop-row.marks known c.loop-row.invariant are
