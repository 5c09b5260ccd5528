use Rattle.std.proofs.Common.{arith}
use Rattle.tv_blur.proofs.Rises.{adds_none, adds_more, adds_past, falls_before}
use Rattle.tv_blur.proofs.ascending.add_rises.Goals as goal

pub next_told-requires : goal.next_told-requires
next_told-requires c = omega (arith, c.requires, c.loop-u.invariant.1)

pub loop-u-init : goal.loop-u-init
loop-u-init c = (adds_none c.args.values.now c.args.rises.now, omega arith)

pub overflow_add-from : goal.overflow_add-from
overflow_add-from c = omega (arith, c.in-Some.ensures.1, c.size.ensures.bound)

pub loop-u-preserved : goal.loop-u-preserved
loop-u-preserved c = (
  adds_more c.args.values.now c.in-Some.u c.args.rises.now c.loop-u.rises c.add_rise.new.rises
      (adds_past c.args.values.now c.loop-u.from c.in-Some.u c.args.rises.now c.loop-u.rises c.loop-u.invariant.0
      c.in-Some.ensures.0 c.in-Some.ensures.2) c.add_rise.ensures.long c.if-not-add_rise.ensures.here c.add_rise.ensures.others,
  omega (arith, c.requires, c.in-Some.ensures.1),
)

pub returns-then-not-add_rise : goal.returns-then-not-add_rise
returns-then-not-add_rise c =
    falls_before c.args.values.now c.in-Some.u c.args.rises.now c.loop-u.rises
    (adds_past c.args.values.now c.loop-u.from c.in-Some.u c.args.rises.now c.loop-u.rises c.loop-u.invariant.0
    c.in-Some.ensures.0 c.in-Some.ensures.2)
    (omega (arith, c.requires, c.in-Some.ensures.1)) c.if-not-add_rise.ensures.here
