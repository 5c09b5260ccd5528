-- No two of the individuals so far are the same.
use Rattle.std.proofs.Common.{ℕ, ◌≡◌, ◌<◌, get_or}
use Rattle.tv_concrete.proofs.shape.all_differ.Given as goal

abbrev pub invariant-loop-j : goal.invariant-loop-j
invariant-loop-j l = (k i : ℕ) → k < l.j → i < k → get_or l.individuals i 0 ≡ get_or l.individuals k 0 → ⊥
