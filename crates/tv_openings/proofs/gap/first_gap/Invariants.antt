use Rattle.std.proofs.Common.{ℕ, ◌<◌}
use Rattle.tv_two_valued.proofs.Definite.{IsDefinite}
use Rattle.tv_openings.proofs.gap.first_gap.Given as goal

abbrev pub invariant-loop-number : goal.invariant-loop-number
invariant-loop-number l = (k : ℕ) → k < l.number → IsDefinite l.s k
