-- The asks so far.
use Rattle.tv_rules.specs.EntryForms.{rules_of}
use Rattle.tv_coerce.proofs.Waking.{IsWokenUpTo}
use Rattle.tv_coerce.proofs.rule_set.RuleSet.add_seeing_asks.Given as goal

abbrev pub invariant-loop-ask : goal.invariant-loop-ask
invariant-loop-ask l = IsWokenUpTo (rules_of l.closed) l.asks l.ask-index l.last l.other l.initial.self l.self
