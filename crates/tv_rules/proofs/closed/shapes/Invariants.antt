use Rattle.std.proofs.Common.{take}
use Rattle.std.specs.List.{AllZip}
use Rattle.tv_model.specs.Program.{rule_of}
use Rattle.tv_rules.specs.Waiting.{IsShape}
use Rattle.tv_rules.proofs.closed.shapes.Given as goal

abbrev pub invariant-loop-rule : goal.invariant-loop-rule
invariant-loop-rule l = AllZip (λ rule shape. IsShape (rule_of rule) shape) (take l.rule-index l.bases) l.list
