-- each entry is that of the best walks past the stops from `first` on
use Rattle.std.proofs.Common.{ℕ, ◌≡◌, ◌<◌, ◌≤◌, ◌-◌, length}
use Rattle.std.specs.List.{range_with_len}
use Rattle.tv_row.specs.Places.{entry_in}
use Rattle.tv_eval_laws.specs.Value.{best_walk}
use Rattle.tv_quantifiers.specs.Rows.{IsSquare}
use Rattle.tv_quantifiers.proofs.relation.Relation.close.Given as goal

abbrev pub invariant-loop-first : goal.invariant-loop-first
invariant-loop-first l =
    (length l.self ≡ length l.initial.self)
    × (l.first ≤ l.size)
    × ((u w : ℕ) → u < l.size → w < l.size
    → entry_in l.self u w ≡ best_walk (entry_in l.initial.self) (range_with_len l.first (l.size - l.first)) u w)
    × IsSquare l.size l.self

abbrev pub decreases-loop-first : goal.decreases-loop-first
decreases-loop-first l = l.first
