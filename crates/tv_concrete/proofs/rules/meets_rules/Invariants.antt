-- Each rule so far is met.
use Rattle.std.specs.List.{AllWithin}
use Rattle.tv_model.specs.declared.program.Rule.{Rule}
use Rattle.tv_model.specs.Program.{rule_of}
use Rattle.tv_model.specs.Rules.{MeetsRule}
use Rattle.tv_concrete.specs.Lists.{heap_of}
use Rattle.tv_concrete.proofs.rules.meets_rules.Given as goal

abbrev pub invariant-loop-rule : goal.invariant-loop-rule
invariant-loop-rule l = AllWithin (λ (rule : Rule). MeetsRule (heap_of l.heap) (rule_of rule)) l.rules 0 l.rule-index
