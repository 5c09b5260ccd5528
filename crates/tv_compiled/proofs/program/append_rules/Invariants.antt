use Rattle.std.proofs.Common.{◌≡◌, ◌++◌, drop, map}
use Rattle.std.specs.List.{flat_map}
use Rattle.tv_model.specs.Program.{pred_of, rule_of}
use Rattle.tv_compiled.specs.Parts.{rule_text}
use Rattle.tv_compiled.proofs.program.append_rules.Given as goal

-- what is written and what is left are all of it
abbrev pub invariant-loop-rule : goal.invariant-loop-rule
invariant-loop-rule l = l.out.items ++ flat_map (rule_text (map pred_of l.preds)) (map rule_of (drop l.rule-index l.rules))
    ≡ l.initial.out.items ++ flat_map (rule_text (map pred_of l.preds)) (map rule_of (l.rules))
