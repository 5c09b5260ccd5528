-- One number after the other.
use Rattle.tv_rules.specs.Moved.{IsMoved}
use Rattle.tv_coerce.proofs.Waking.{least-next, least-whole}
use Rattle.tv_coerce.proofs.rule_set.RuleSet.insert_all_moved.Goals as goal

pub loop-number-preserved : goal.loop-number-preserved
loop-number-preserved c =
    least-next (IsMoved c.args.closed.now c.args.occurrence) c.args.numbers.now c.loop-number.number-index 0 c.args.self.now c.loop-number.self
    c.insert_moved.new.self c.loop-number-test.true c.loop-number.invariant c.insert_moved.ensures

pub returns : goal.returns
returns c =
    least-whole (IsMoved c.args.closed.now c.args.occurrence) c.args.numbers.now c.loop-number.number-index c.args.self.now c.loop-number.self
    c.loop-number-test.false c.loop-number.invariant
