use Rattle.std.proofs.Common.{◌≤◌, length}
use Rattle.tv_quantifiers.proofs.order.are_few.Given as goal

abbrev pub invariant-loop : goal.invariant-loop
invariant-loop l = l.from ≤ length l.caps
