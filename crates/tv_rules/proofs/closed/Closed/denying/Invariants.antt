-- None of those so far denies the member.
use Rattle.std.proofs.Common.{ℕ, ◌≡◌, ◌≢◌, ◌<◌, Some, slice_get}
use Rattle.tv_rules.specs.Kin.{skip_of}
use Rattle.tv_rules.proofs.closed.Closed.denying.Given as goal

abbrev pub invariant-loop-n : goal.invariant-loop-n
invariant-loop-n l =
    (k n : ℕ) → k < l.n-index → slice_get l.n-items k ≡ Some n → skip_of l.self n ≢ l.member
