use Rattle.std.proofs.Common.{ℕ, ◌<◌}
use Rattle.tv_two_valued.proofs.Definite.{IsDefinite}
use Rattle.tv_two_valued.proofs.whether.is_two_valued.Given as goal

abbrev pub invariant-loop-p : goal.invariant-loop-p
invariant-loop-p l = (q : ℕ) → q < l.p → IsDefinite l.s q
