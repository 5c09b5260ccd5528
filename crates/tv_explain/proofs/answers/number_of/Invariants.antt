use Rattle.std.proofs.Common.{ℕ, ◌<◌, ◌≡◌, get_or, List}
use Rattle.tv_explain.proofs.answers.number_of.Given as goal

-- none of the names before it is this one
abbrev pub invariant-loop-number : goal.invariant-loop-number
invariant-loop-number l = (k : ℕ) (d : List ℕ) → k < l.number → ¬ (get_or l.names k d ≡ l.name)
