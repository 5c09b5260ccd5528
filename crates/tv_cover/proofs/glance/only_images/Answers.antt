use Rattle.std.proofs.Common.{ℕ, ◌≡◌, ◌<◌, [], get_or, length, refl, subst, sym}
use Rattle.std.specs.Prelude.{IfSome}
use Rattle.tv_cover.specs.Glance.{AreOnlyImages, LieUnder}
use Rattle.tv_cover.proofs.GlanceLaws.{images-none, images-more, images-all}
use Rattle.tv_cover.proofs.NotedLaws.{row-at}
use Rattle.tv_cover.proofs.glance.only_images.Goals as goal

pub loop-row-init : goal.loop-row-init
loop-row-init c = images-none c.args.rows.now c.args.others.now c.in_ok-images.images.items c.in_ok-images.ensures.items

pub loop-row-preserved : goal.loop-row-preserved
loop-row-preserved c =
    images-more c.args.rows.now c.args.others.now c.loop-row.row-index c.in-Some.w c.row-item.result c.loop-row.images.items
    c.push.new.self.items
    (row-at c.args.rows.now c.args.rows.now c.loop-row.row-index c.row-item.result c.row-item.is refl c.loop-row-test.true)
    c.in_ok-push.ensures.items
    (subst (λ o. IfSome o (λ i. (w : ℕ) → w < length c.args.others.now
    → LieUnder c.row-item.result (get_or c.args.others.now w []) → w ≡ i)) c.in-Some.is c.only_above.ensures.only)
    c.loop-row.invariant

pub returns : goal.returns
returns c =
    subst (AreOnlyImages c.args.rows.now c.args.others.now) (sym c.from_vec.ensures)
    (images-all c.args.rows.now c.args.others.now c.loop-row.row-index c.loop-row.images.items c.loop-row-test.false
    c.loop-row.auto.row-index-end c.loop-row.invariant)
