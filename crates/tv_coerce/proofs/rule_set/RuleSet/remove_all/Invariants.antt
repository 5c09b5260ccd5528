-- The numbers so far.
use Rattle.std.proofs.Common.{Contains, take}
use Rattle.tv_coerce.specs.RuleSets.{HasFewer}
use Rattle.tv_coerce.proofs.rule_set.RuleSet.remove_all.Given as goal

abbrev pub invariant-loop-number : goal.invariant-loop-number
invariant-loop-number l = HasFewer (Contains (take l.number-index l.numbers)) l.initial.self l.self
