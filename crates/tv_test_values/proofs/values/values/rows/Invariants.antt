use Rattle.std.proofs.Common.{◌≡◌}
use Rattle.tv_test_values.proofs.values.values.rows.Given as goal

abbrev pub invariant-loop-u : goal.invariant-loop-u
invariant-loop-u l = l.scratch ≡ l.initial.scratch
