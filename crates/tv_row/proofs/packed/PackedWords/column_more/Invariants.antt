use Rattle.std.proofs.Common.{ℕ, ◌≡◌, ◌<◌, ◌+◌, ◌*◌, length, get_or}
use Rattle.tv_kleene.specs.declared.K3.TheVariants.{No}
use Rattle.tv_row.specs.Places.{value_in}
use Rattle.tv_row.proofs.packed.PackedWords.column_more.Given as goal

abbrev pub invariant-loop-u : goal.invariant-loop-u
invariant-loop-u l =
    (length l.values ≡ l.rows)
    × ((v : ℕ) → v < l.u → get_or l.values v No ≡ value_in l.self.words (l.start + v * l.width) l.column)
