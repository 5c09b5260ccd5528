use Rattle.std.proofs.Common.{ℕ, ◌≡◌, ◌↔◌, true, length, take, Some, slice_get, Contains}
use Rattle.tv_rules.proofs.watch.standing_flags.Given as goal

abbrev pub invariant-loop-number : goal.invariant-loop-number
invariant-loop-number l =
    (length l.flags.items ≡ length l.bases)
    × ((n : ℕ) → (slice_get l.flags.items n ≡ Some true) ↔ Contains (take l.number-index l.with) n)
