use Rattle.std.proofs.Common.{arith}
use Rattle.tv_blur.proofs.Rises.{adds_none, adds_more, adds_past}
use Rattle.tv_blur.proofs.ascending.with_rises.Goals as goal

pub loop-u-init : goal.loop-u-init
loop-u-init c = (adds_none c.args.values c.args.rises, omega arith)

pub loop-u-preserved : goal.loop-u-preserved
loop-u-preserved c = (
  adds_more c.args.values c.in-Some.u c.args.rises c.loop-u.told c.in_ok-told.told
      (adds_past c.args.values c.loop-u.from c.in-Some.u c.args.rises c.loop-u.told c.loop-u.invariant.0
      c.in-Some.ensures.0 c.in-Some.ensures.2) c.in_ok-told.ensures.long c.in_ok-told.ensures.here c.in_ok-told.ensures.others,
  omega (arith, c.in-Some.ensures.1),
)
