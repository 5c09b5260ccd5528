use Rattle.std.proofs.Common.{arith}
use Rattle.tv_work.proofs.Larger.{raised-next}
use Rattle.tv_work.proofs.told.GreatestValues.note.Goals as goal

pub loop-number-preserved : goal.loop-number-preserved
loop-number-preserved c = record {
  within = omega (arith, c.loop-number-test.true);
  raised = raised-next c.args.values.now c.args.self.now c.loop-number.self c.raise.new.self c.loop-number.number
      c.loop-number-test.true c.in_ok-raise.ensures.raised c.loop-number.invariant.raised;
  count = omega (arith, c.in_ok-raise.ensures.count, c.loop-number.invariant.count);
}
