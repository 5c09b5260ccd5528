use Rattle.std.proofs.Common.{◌≡◌}
use Rattle.tv_test_values.proofs.values.values.ones.Given as goal

abbrev pub invariant-loop-x : goal.invariant-loop-x
invariant-loop-x l = l.scratch ≡ l.initial.scratch
