use Rattle.std.proofs.Common.{◌≡◌, ◌<◌, ◌≤◌, List, [], ap, arith, length, get_or, subst, ◌∙◌, take}
use Rattle.tv_kleene.specs.declared.K3.{K3}
use Rattle.tv_cover.specs.Glance.{GlanceForm, profile_number}
use Rattle.tv_cover.proofs.GlanceLaws.{length-slots, slots-more, greatest-more, number-all}
use Rattle.tv_cover.proofs.NotedLaws.{row-at}
use Rattle.tv_cover.proofs.glance.Glance.number.Goals as goal

pub set-requires : goal.set-requires
set-requires c =
    let long : length c.loop-row.slots ≡ 256
    = ap length c.loop-row.invariant.slots
    ∙ length-slots (profile_number c.args.known.now) (take c.loop-row.row-index c.args.self.now.unary)
    in omega (arith, long)

pub loop-row-preserved : goal.loop-row-preserved
loop-row-preserved c =
    let same : c.as_slice-row-items.result.now ≡ c.args.self.now.unary
    = c.as_slice-row-items.ensures.value ∙ ap (λ (g : GlanceForm). g.unary) c.self.view_is
    in let within : c.loop-row.row-index < length c.args.self.now.unary
    = subst (λ (rows : List (List K3)). c.loop-row.row-index < length rows) same c.loop-row-test.true
    in let at : c.row-item.result ≡ get_or c.args.self.now.unary c.loop-row.row-index []
    = row-at c.as_slice-row-items.result.now c.args.self.now.unary c.loop-row.row-index c.row-item.result c.row-item.is same
    c.loop-row-test.true
    in record {
      slots = slots-more (profile_number c.args.known.now) c.args.self.now.unary c.loop-row.row-index
          c.number-number.result c.row-item.result c.loop-row.slots c.set.new.self within at
          c.number-number.ensures c.loop-row.invariant.slots c.set.ensures;
      greatest = greatest-more (profile_number c.args.known.now) c.args.self.now.unary c.loop-row.row-index
          c.number-number.result c.row-item.result c.loop-row.greatest c.larger-greatest.result within at
          c.number-number.ensures c.loop-row.invariant.greatest c.larger-greatest.ensures;
    }

pub returns : goal.returns
returns c =
    let same : c.as_slice-row-items.result.now ≡ c.args.self.now.unary
    = c.as_slice-row-items.ensures.value ∙ ap (λ (g : GlanceForm). g.unary) c.self.view_is
    in number-all c.args.known.now c.args.self.now c.loop-row.row-index c.loop-row.greatest c.number.result
    c.mix.result c.mix-2.result c.loop-row.slots
    (subst (λ (rows : List (List K3)). length rows ≤ c.loop-row.row-index) same c.loop-row-test.false)
    c.loop-row.invariant.slots c.loop-row.invariant.greatest
    (c.number.ensures ∙ ap (λ (g : GlanceForm). profile_number c.args.known.now g.nullary) c.self.view_is)
    c.mix.ensures c.mix-2.ensures
