-- No tuple so far is the one that is sought.
use Rattle.std.proofs.Common.{◌≡◌, ℕ, ◌<◌, get_or}
use Rattle.tv_concrete.proofs.heap_list.HeapList.holds_of.Given as goal

abbrev pub invariant-loop-candidate : goal.invariant-loop-candidate
invariant-loop-candidate l = (k : ℕ) → k < l.candidate-index → get_or l.candidate-items k l.tuple ≡ l.tuple → ⊥
