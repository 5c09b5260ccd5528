-- None of the individuals so far is the one at `j`.
use Rattle.std.proofs.Common.{ℕ, ◌≡◌, ◌<◌, get_or}
use Rattle.tv_concrete.proofs.shape.differs_before.Given as goal

abbrev pub invariant-loop-i : goal.invariant-loop-i
invariant-loop-i l = (k : ℕ) → k < l.i → get_or l.individuals k 0 ≡ get_or l.individuals l.j 0 → ⊥
