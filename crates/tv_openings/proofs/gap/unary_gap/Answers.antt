use Rattle.std.proofs.Common.{arith}
use Rattle.tv_openings.proofs.GapLaws.{unary_known}
use Rattle.tv_openings.proofs.gap.unary_gap.Goals as goal

pub returns : goal.returns
returns c =
    unary_known c.args.s.now c.args.pred.0 c.size-u-end.ensures.kept c.requires
    (λ u lt. c.loop-u.invariant u (omega (arith, lt, c.loop-u-test.false, c.size-u-end.ensures.size)))
