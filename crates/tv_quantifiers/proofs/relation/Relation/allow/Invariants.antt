-- the rows so far pass through the stop, and the others are as before
use Rattle.std.proofs.Common.{ℕ, ◌≡◌, ◌<◌, ◌≤◌, length}
use Rattle.tv_row.specs.Places.{entry_in}
use Rattle.tv_quantifiers.specs.Rows.{IsSquare, through}
use Rattle.tv_quantifiers.proofs.relation.Relation.allow.Given as goal

abbrev pub invariant-loop-u : goal.invariant-loop-u
invariant-loop-u l =
    (length l.self ≡ length l.initial.self)
    × ((v x : ℕ) → v < l.u → x < l.size → entry_in l.self v x ≡ through (entry_in l.initial.self) l.stop v x)
    × ((v x : ℕ) → l.u ≤ v → entry_in l.self v x ≡ entry_in l.initial.self v x)
    × IsSquare l.size l.self
