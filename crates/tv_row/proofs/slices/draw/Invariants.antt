use Rattle.std.proofs.Common.{ℕ, ◌≡◌, ◌<◌, ◌≤◌, ◌+◌, ◌*◌, ◌⊎◌, length, take}
use Rattle.tv_row.specs.Drawing.{drawn_by}
use Rattle.tv_row.specs.Places.{AreWords, word_at, value_in}
use Rattle.tv_row.proofs.slices.draw.Given as goal

abbrev pub invariant-loop-run : goal.invariant-loop-run
invariant-loop-run l =
    ((c : ℕ) → c < 64 * l.width → value_in l.words l.at c ≡ drawn_by (value_in l.source l.from) (take l.run-index l.runs) c)
    × ((p : ℕ) → (p < l.at) ⊎ (l.at + l.width ≤ p) → word_at l.words p ≡ word_at l.initial.words p)
    × (AreWords l.initial.words → AreWords l.words)
    × (length l.words ≡ length l.initial.words)
