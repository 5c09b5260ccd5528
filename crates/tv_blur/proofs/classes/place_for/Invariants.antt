use Rattle.std.proofs.Common.{ℕ, ◌≡◌, ◌<◌, ◌≤◌, ◌-◌, length, Less}
use Rattle.std.specs.Prelude.{◌≢◌}
use Rattle.tv_blur.specs.Names.{name_cmp}
use Rattle.tv_blur.specs.Naming.{class_name, canonical_name_in}
use Rattle.tv_blur.proofs.classes.place_for.Given as goal

abbrev pub invariant-loop-low : goal.invariant-loop-low
invariant-loop-low l =
    (l.low ≤ l.high) × (l.high ≤ length l.classes)
    × ((w : ℕ) → w < l.low → name_cmp (class_name l.names l.classes w) (canonical_name_in l.names l.u) ≡ Less)
    × ((w : ℕ) → l.high ≤ w → w < length l.classes → name_cmp (class_name l.names l.classes w) (canonical_name_in l.names l.u) ≢ Less)

abbrev pub decreases-loop-low : goal.decreases-loop-low
decreases-loop-low l = l.high - l.low
