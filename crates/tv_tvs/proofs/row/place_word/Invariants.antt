use Rattle.std.proofs.Common.{◌≡◌, ◌≤◌, ◌+◌, ◌-◌, ◌*◌, length, take}
use Rattle.std.specs.Prelude.{slice_index_or}
use Rattle.std.specs.List.{flat_map, range_with_len}
use Rattle.tv_kleene.specs.declared.K3.TheVariants.{No}
use Rattle.tv_tvs.specs.Rows.{behind}
use Rattle.tv_tvs.proofs.row.place_word.Given as goal

abbrev pub invariant-loop-i : goal.invariant-loop-i
invariant-loop-i l =
    (l.from ≤ 64)
    × (take l.end l.room ≡ flat_map (λ i. behind l.prefix (l.first + i) (slice_index_or l.values i No)) (range_with_len 0 l.from))
    × (l.end ≤ 24 * l.from) × (length l.room ≡ length l.initial.room)

abbrev pub decreases-loop-i : goal.decreases-loop-i
decreases-loop-i l = 64 - l.from
