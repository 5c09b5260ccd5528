use Rattle.std.proofs.Common.{ℕ, ◌≡◌, ◌<◌, ◌+◌, ◌-◌, ◌*◌, length, get_or}
use Rattle.tv_kleene.specs.declared.K3.TheVariants.{No}
use Rattle.tv_row.specs.Places.{value_in}
use Rattle.tv_row.proofs.packed.PackedWords.column_word.Given as goal

abbrev pub invariant-loop-u : goal.invariant-loop-u
invariant-loop-u l =
    (length l.word ≡ 64)
    × ((v : ℕ) → v < l.u → get_or l.word (64 - l.u + v) No ≡ value_in l.self.words (l.start + v * l.width) l.column)
