use Rattle.std.proofs.Common.{arith}
use Rattle.tv_openings.proofs.GapLaws.{all_known}
use Rattle.tv_openings.proofs.gap.first_gap.Goals as goal

pub returns : goal.returns
returns c =
    all_known c.args.s.now c.loop-number.number
    (omega (arith, c.loop-number-test.false, c.pred_count-number-end.ensures))
    c.loop-number.invariant
