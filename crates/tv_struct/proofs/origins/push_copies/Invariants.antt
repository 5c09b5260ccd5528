use Rattle.std.proofs.Common.{◌≡◌, ◌++◌, replicate}
use Rattle.tv_struct.proofs.origins.push_copies.Given as goal

abbrev pub invariant-loop : goal.invariant-loop
invariant-loop l = l.origins.items ≡ l.initial.origins.items ++ replicate l.counter l.u
