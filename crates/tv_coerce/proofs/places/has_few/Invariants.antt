use Rattle.std.proofs.Common.{◌≤◌}
use Rattle.tv_coerce.proofs.places.has_few.Given as goal

abbrev pub invariant-loop : goal.invariant-loop
invariant-loop l = l.from ≤ 64
