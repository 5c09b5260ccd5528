use Rattle.std.proofs.Common.{◌≡◌, length}
use Rattle.tv_rules.proofs.turns.tried_from.Given as goal

abbrev pub invariant-loop-number : goal.invariant-loop-number
invariant-loop-number l = length l.flags ≡ length l.entries
