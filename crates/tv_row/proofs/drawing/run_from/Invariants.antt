use Rattle.std.proofs.Common.{ℕ, ◌≡◌, ◌<◌, ◌+◌, get_or}
use Rattle.tv_row.proofs.drawing.run_from.Given as goal

abbrev pub invariant-loop-i : goal.invariant-loop-i
invariant-loop-i l = (k : ℕ) → k < l.i → get_or l.origins (l.to + k) 0 ≡ l.from + k
