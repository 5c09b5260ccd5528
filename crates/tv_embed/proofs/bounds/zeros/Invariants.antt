use Rattle.std.proofs.Common.{◌≡◌, length}
use Rattle.tv_embed.proofs.bounds.zeros.Given as goal

abbrev pub invariant-loop : goal.invariant-loop
invariant-loop l = length l.zeros.items ≡ l.counter
