-- One number after the other.
use Rattle.std.proofs.Common.{arith}
use Rattle.tv_coerce.proofs.SetLaws.{all_gone, more_gone}
use Rattle.tv_coerce.proofs.rule_set.RuleSet.remove_all.Goals as goal

pub loop-number-preserved : goal.loop-number-preserved
loop-number-preserved c =
    more_gone c.args.numbers.now c.loop-number.number-index 0 c.args.self.now c.loop-number.self c.remove.new.self c.loop-number-test.true
    c.loop-number.invariant c.remove.ensures

pub returns : goal.returns
returns c =
    all_gone c.args.numbers.now c.loop-number.number-index c.args.self.now c.loop-number.self
    (omega (arith, c.loop-number-test.false)) c.loop-number.invariant
