use Rattle.std.proofs.Common.{◌≡◌, ◌≤◌, ◌-◌, ◌++◌, [], length}
use Rattle.std.specs.Prelude.{slice_index_or}
use Rattle.std.specs.List.{flat_map, range_with_len}
use Rattle.tv_kleene.specs.declared.K3.TheVariants.{No}
use Rattle.tv_show.specs.Rows.{arrow_marked}
use Rattle.tv_show.proofs.line.append_row.Given as goal

abbrev pub invariant-loop-w : goal.invariant-loop-w
invariant-loop-w l =
    (l.from ≤ length l.values)
    × (l.out.items ≡ l.initial.out.items
    ++ flat_map (λ w. arrow_marked l.name (slice_index_or l.targets w []) (slice_index_or l.values w No)) (range_with_len 0 l.from))

abbrev pub decreases-loop-w : goal.decreases-loop-w
decreases-loop-w l = length l.values - l.from
