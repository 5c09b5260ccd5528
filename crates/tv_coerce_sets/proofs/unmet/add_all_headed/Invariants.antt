use Rattle.std.proofs.Common.{Contains, take}
use Rattle.tv_coerce.specs.RuleSets.{AreOf, HasAtLeast, IsRuleThat}
use Rattle.tv_rules.specs.EntryForms.{rules_of}
use Rattle.tv_coerce_sets.specs.Unmet.{HasHeadWith}
use Rattle.tv_coerce_sets.proofs.unmet.add_all_headed.Given as goal

abbrev pub invariant-loop-number : goal.invariant-loop-number
invariant-loop-number l =
    HasAtLeast (AreOf (Contains (take l.number-index l.numbers))
    (IsRuleThat (HasHeadWith l.flag l.p.0) (rules_of l.closed))) l.fn.set l.set
