use Rattle.std.proofs.Common.{ℕ, ◌<◌, All, Contains}
use Rattle.tv_coerce_members.specs.Members.{numbers_of}
use Rattle.tv_replay_judge.specs.Trying.{IsFreeIn, implication_of}
use Rattle.tv_replay_judge.proofs.rule.variables.Given as goal

abbrev pub invariant-loop-v : goal.invariant-loop-v
invariant-loop-v l = record {
  free : All (λ w. IsFreeIn w (implication_of l.trial)) (numbers_of l.vars);
  found : (w : ℕ) → w < l.v → IsFreeIn w (implication_of l.trial) → Contains (numbers_of l.vars) w;
}
