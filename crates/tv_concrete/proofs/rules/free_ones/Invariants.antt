-- The list has the free ones of the variables so far.
use Rattle.std.proofs.Common.{ℕ, ◌↔◌, Contains, take}
use Rattle.tv_model.specs.Program.{rule_of}
use Rattle.tv_model.specs.Rules.{IsFreeInRule}
use Rattle.tv_concrete.proofs.rules.free_ones.Given as goal

abbrev pub invariant-loop-v : goal.invariant-loop-v
invariant-loop-v l = (w : ℕ) → Contains l.vars w ↔ (Contains (take l.v-index l.all) w × IsFreeInRule w (rule_of l.rule))
