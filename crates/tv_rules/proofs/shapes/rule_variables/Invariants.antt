use Rattle.tv_model.specs.Program.{rule_of}
use Rattle.tv_model.specs.Rules.{IsFreeInRule}
use Rattle.tv_rules.specs.EntryForms.{numbers_of}
use Rattle.tv_rules.proofs.RuleTests.{HasFree}
use Rattle.tv_rules.proofs.shapes.rule_variables.Given as goal

abbrev pub invariant-loop-v : goal.invariant-loop-v
invariant-loop-v l = HasFree (λ w. IsFreeInRule w (rule_of l.rule)) (numbers_of l.vars) l.v
