use Rattle.std.proofs.Common.{refl, set, arith}
use Rattle.std.specs.Prelude.{slice_index_or}
use Rattle.tv_embed.proofs.BoundLaws.{raised_none, raised_more, raised_all}
use Rattle.tv_embed.proofs.bounds.raise.Goals as goal

pub loop-w-init : goal.loop-w-init
loop-w-init c = raised_none c.args.places.now c.args.bound c.args.bounds.now.items

pub loop-w-preserved : goal.loop-w-preserved
loop-w-preserved c =
    raised_more c.args.places.now c.args.bound c.loop-w.w-index (slice_index_or c.args.places.now c.loop-w.w-index 0)
    c.args.bounds.now.items c.loop-w.bounds.items
    (set c.loop-w.bounds.items (slice_index_or c.args.places.now c.loop-w.w-index 0) c.args.bound) refl
    (omega (arith, c.requires c.loop-w.w-index 0 c.loop-w-test.true, c.loop-w.invariant.long)) refl c.loop-w.invariant

pub returns-clause-set : goal.returns-clause-set
returns-clause-set c =
    raised_all c.args.places.now c.args.bound c.loop-w.w-index c.args.bounds.now.items c.loop-w.bounds.items c.loop-w-test.false
    c.loop-w.invariant
