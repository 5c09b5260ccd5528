use Rattle.tv_coerce.specs.RuleSets.{IsRuleThat}
use Rattle.tv_coerce.proofs.Waking.{least-next, least-whole}
use Rattle.tv_rules.specs.EntryForms.{rules_of}
use Rattle.tv_coerce_sets.specs.Unmet.{HasHeadWith}
use Rattle.tv_coerce_sets.proofs.unmet.add_all_headed.Goals as goal

pub loop-number-preserved : goal.loop-number-preserved
loop-number-preserved c =
    least-next (IsRuleThat (HasHeadWith c.args.flag c.args.p.0) (rules_of c.args.closed.now)) c.args.numbers.now
    c.loop-number.number-index 0 c.args.set.now c.loop-number.set c.add_one_headed.new.set c.loop-number-test.true
    c.loop-number.invariant c.add_one_headed.ensures

pub returns : goal.returns
returns c =
    least-whole (IsRuleThat (HasHeadWith c.args.flag c.args.p.0) (rules_of c.args.closed.now)) c.args.numbers.now
    c.loop-number.number-index c.args.set.now c.loop-number.set c.loop-number-test.false c.loop-number.invariant
