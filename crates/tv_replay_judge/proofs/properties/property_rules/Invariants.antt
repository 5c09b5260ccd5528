use Rattle.std.proofs.Common.{◌≡◌, ◌++◌, map, drop}
use Rattle.tv_model.specs.Program.{pred_of, rule_of}
use Rattle.tv_replay_laws.specs.JudgedRules.{rules_of_properties}
use Rattle.tv_replay_judge.proofs.properties.property_rules.Given as goal

abbrev pub invariant-loop-number : goal.invariant-loop-number
invariant-loop-number l =
    map rule_of l.rules ++ rules_of_properties l.number (map pred_of (drop l.number l.preds))
    ≡ rules_of_properties 0 (map pred_of l.preds)
