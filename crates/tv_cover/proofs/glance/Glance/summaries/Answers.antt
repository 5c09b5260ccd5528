use Rattle.std.proofs.Common.{◌≡◌, ap, ◌∙◌}
use Rattle.tv_cover.specs.Glance.{GlanceForm}
use Rattle.tv_cover.proofs.GlanceLaws.{summaries-none, summaries-more, summaries-all}
use Rattle.tv_cover.proofs.NotedLaws.{row-at}
use Rattle.tv_cover.proofs.glance.Glance.summaries.Goals as goal

pub loop-row-init : goal.loop-row-init
loop-row-init c = summaries-none c.args.known.now c.args.self.now.unary c.of-slots.result c.of-slots.ensures

pub loop-row-preserved : goal.loop-row-preserved
loop-row-preserved c =
    let same : c.as_slice-row-items.result.now ≡ c.args.self.now.unary
    = c.as_slice-row-items.ensures.value ∙ ap (λ (g : GlanceForm). g.unary) c.self.view_is
    in summaries-more c.args.known.now c.args.self.now.unary c.loop-row.row-index c.row-item.result c.loop-row.slots
    c.marked-slots.result
    (row-at c.as_slice-row-items.result.now c.args.self.now.unary c.loop-row.row-index c.row-item.result c.row-item.is same
    c.loop-row-test.true)
    c.marked-slots.ensures.summary c.marked-slots.ensures.ordinary c.loop-row.invariant

pub returns : goal.returns
returns c =
    let same : c.as_slice-row-items.result.now ≡ c.args.self.now.unary
    = c.as_slice-row-items.ensures.value ∙ ap (λ (g : GlanceForm). g.unary) c.self.view_is
    in summaries-all c.args.known.now c.args.self.now.unary c.as_slice-row-items.result.now c.loop-row.row-index c.loop-row.slots same
    c.loop-row-test.false c.loop-row.auto.row-index-end c.loop-row.invariant
