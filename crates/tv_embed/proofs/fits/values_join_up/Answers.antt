use Rattle.std.proofs.Common.{◌≡◌, ◌<◌, arith, below_more, length, true, false}
use Rattle.std.specs.Prelude.{Some, slice_get}
use Rattle.tv_kleene.specs.Kleene.{LiesUnder}
use Rattle.tv_structure_form.specs.StructureForm.{arities_of}
use Rattle.tv_struct.proofs.Library.{length-row_at}
use Rattle.tv_embed.specs.Maps.{image_of}
use Rattle.tv_embed.proofs.FitLaws.{rows-under}
use Rattle.tv_embed.proofs.fits.values_join_up.Goals as goal

pub get-requires : goal.get-requires
get-requires c =
    let inside : c.loop-x.x < c.args.small.now.size = omega (arith, c.loop-x-test.true, c.requires.next)
    in rw (c.row-below.ensures, length-row_at c.args.small.now c.args.p.0 (length c.args.images.now)) inside

pub get-requires-in-loop-x : goal.get-requires-in-loop-x
get-requires-in-loop-x c =
    rw (c.row-above.ensures, length-row_at c.args.large.now c.args.p.0 c.args.w) (c.requires.within c.loop-x.x c.loop-x-test.true)

pub returns-then-not-under : goal.returns-then-not-under
returns-then-not-under c = (
  λ e. absurd (cc),
  λ joins.
      let unary : slice_get (arities_of c.args.small.now) c.args.p.0 ≡ Some 2 = rw c.if-arity-ne2.false at c.arity.ensures.value
      in let under : LiesUnder c.get.result c.get-in-loop-x.result
      = (rows-under c.args.small.now c.args.large.now c.args.p.0 (length c.args.images.now) c.args.w c.loop-x.x
      (image_of c.args.images.now c.loop-x.x) c.row-below.result c.row-above.result c.get.result c.get-in-loop-x.result
      c.row-below.ensures c.row-above.ensures (omega (arith, c.loop-x-test.true, c.requires.next))
      (c.requires.within c.loop-x.x c.loop-x-test.true) c.get.ensures c.get-in-loop-x.ensures).1
      ((joins c.loop-x.x c.loop-x-test.true).0 unary)
      in absurd (let is : c.under.result ≡ true = c.under.ensures.1 under
      in let isnt : c.under.result ≡ false = c.if-not-under.true in cc),
)

pub loop-x-preserved : goal.loop-x-preserved
loop-x-preserved c =
    below_more _ _ c.loop-x.invariant (
      λ arity. (rows-under c.args.small.now c.args.large.now c.args.p.0 (length c.args.images.now) c.args.w c.loop-x.x
          (image_of c.args.images.now c.loop-x.x) c.row-below.result c.row-above.result c.get.result c.get-in-loop-x.result
          c.row-below.ensures c.row-above.ensures (omega (arith, c.loop-x-test.true, c.requires.next))
          (c.requires.within c.loop-x.x c.loop-x-test.true) c.get.ensures c.get-in-loop-x.ensures).0
          (c.under.ensures.0 c.if-not-under.false),
      λ arity. rw (← c.get-back.ensures, ← c.get-in-loop-x-2.ensures) (c.under-in-loop-x.ensures.0 c.if-not-under-2.false),
    )
