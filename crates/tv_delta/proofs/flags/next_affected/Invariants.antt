use Rattle.std.proofs.Common.{ℕ, ◌≡◌, ◌<◌, true}
use Rattle.std.specs.Prelude.{slice_get}
use Rattle.tv_delta_laws.specs.Deltas.{is_flagged}
use Rattle.tv_delta.specs.Flags.{tells}
use Rattle.tv_delta.proofs.flags.next_affected.Given as goal

abbrev pub invariant-loop-q : goal.invariant-loop-q
invariant-loop-q l =
    (k : ℕ) → k < l.q → tells l.flags (slice_get l.uses.lists.items k) ≡ true → is_flagged l.flags k ≡ true
