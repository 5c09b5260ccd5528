use Rattle.std.proofs.Common.{ℕ, ◌≡◌, ◌<◌, false}
use Rattle.tv_update.specs.Plan.{is_set}
use Rattle.tv_update.proofs.plan.are_clear.Given as goal

abbrev pub invariant-loop-flag : goal.invariant-loop-flag
invariant-loop-flag l = (q : ℕ) → q < l.flag-index → is_set l.flags q ≡ false
