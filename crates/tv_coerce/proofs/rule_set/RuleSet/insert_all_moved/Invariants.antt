-- The numbers so far.
use Rattle.std.proofs.Common.{Contains, take}
use Rattle.tv_rules.specs.Moved.{IsMoved}
use Rattle.tv_coerce.specs.RuleSets.{AreOf, HasAtLeast}
use Rattle.tv_coerce.proofs.rule_set.RuleSet.insert_all_moved.Given as goal

abbrev pub invariant-loop-number : goal.invariant-loop-number
invariant-loop-number l =
    HasAtLeast (AreOf (Contains (take l.number-index l.numbers)) (IsMoved l.closed l.occurrence)) l.initial.self l.self
