use Rattle.std.proofs.Common.{arith}
use Rattle.tv_openings.proofs.GapLaws.{pairs_known}
use Rattle.tv_openings.proofs.gap.binary_gap.Goals as goal

pub returns : goal.returns
returns c =
    pairs_known c.args.s.now c.args.pred.0 c.size-u-end.ensures.kept c.requires
    (λ u lt w small. c.loop-u.invariant u (omega (arith, lt, c.loop-u-test.false, c.size-u-end.ensures.size)) w small)
