use Rattle.std.proofs.Common.{ℕ, ◌≢◌, ◌<◌, ◌≤◌, ◌-◌, ◌*◌}
use Rattle.tv_kleene.specs.declared.K3.TheVariants.{Yes}
use Rattle.tv_row.specs.Places.{value_in}
use Rattle.tv_row.proofs.slices.next_yes.Given as goal

abbrev pub invariant-loop-at : goal.invariant-loop-at
invariant-loop-at l =
    (l.from ≤ l.at) × (l.at ≤ 64 * l.width)
    × ((c : ℕ) → l.from ≤ c → c < l.at → value_in l.words l.start c ≢ Yes)

abbrev pub decreases-loop-at : goal.decreases-loop-at
decreases-loop-at l = 64 * l.width - l.at
