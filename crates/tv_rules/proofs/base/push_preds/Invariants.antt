use Rattle.std.proofs.Common.{◌≡◌, ◌++◌, map, drop}
use Rattle.tv_model.specs.Program.{pred_of, rule_of}
use Rattle.tv_rules.specs.Closing.{dropped_rule, rules_from}
use Rattle.tv_rules.proofs.base.push_preds.Given as goal

abbrev pub invariant-loop-number : goal.invariant-loop-number
invariant-loop-number l =
    map rule_of l.rules ++ map dropped_rule (rules_from l.number (map pred_of (drop l.number l.preds)))
    ≡ map rule_of l.initial.rules ++ map dropped_rule (rules_from 0 (map pred_of l.preds))
