use Rattle.std.proofs.Common.{ℕ, ◌<◌, Contains}
use Rattle.tv_model.specs.Program.{rule_of}
use Rattle.tv_model.specs.Rules.{IsFreeInRule}
use Rattle.tv_rules.specs.EntryForms.{numbers_of}
use Rattle.tv_rules.proofs.shapes.told_alone.Given as goal

abbrev pub invariant-loop-v : goal.invariant-loop-v
invariant-loop-v l = (w : ℕ) → Contains (numbers_of l.vars) w → (w < 32) × IsFreeInRule w (rule_of l.rule)
