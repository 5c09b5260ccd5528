-- One ask after the other.
use Rattle.tv_rules.specs.EntryForms.{rules_of}
use Rattle.tv_coerce.proofs.Waking.{woken-again, woken-next}
use Rattle.tv_coerce.proofs.rule_set.RuleSet.add_seeing_asks.Goals as goal
use Rattle.tv_coerce.proofs.rule_set.RuleSet.add_seeing_asks.Goals.{then-not-is_that, else-not-is_that}

pub loop-ask-preserved : goal.loop-ask-preserved
loop-ask-preserved c =
    elim c.if-not-is_that.branch [
      | then-not-is_that w ↦ rw (w.last-is, w.other-is) (woken-next (rules_of c.args.closed.now) c.args.asks.now c.loop-ask.ask-index _ c.loop-ask.last c.loop-ask.other c.args.self.now
          c.loop-ask.self c.add_seeing_rule.new.self c.loop-ask-test.true c.loop-ask.invariant c.add_seeing_rule.ensures)
      | else-not-is_that w ↦ rw (w.last-is, w.other-is) (woken-again (rules_of c.args.closed.now) c.args.asks.now c.loop-ask.ask-index _ c.loop-ask.last c.loop-ask.other c.args.self.now
          c.loop-ask.self c.add_seeing_rule.new.self c.loop-ask-test.true c.loop-ask.invariant c.add_seeing_rule.ensures)
    ]
