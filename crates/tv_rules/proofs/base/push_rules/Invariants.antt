use Rattle.std.proofs.Common.{◌≡◌, ◌++◌, map, drop}
use Rattle.tv_model.specs.Program.{rule_of}
use Rattle.tv_rules.specs.Closing.{dropped_rule}
use Rattle.tv_rules.proofs.base.push_rules.Given as goal

abbrev pub invariant-loop-rule : goal.invariant-loop-rule
invariant-loop-rule l =
    map rule_of l.rules ++ map dropped_rule (map rule_of (drop l.rule-index l.declared))
    ≡ map rule_of l.initial.rules ++ map dropped_rule (map rule_of l.declared)
