use Rattle.std.proofs.Common.{ℕ, ◌≡◌, ◌<◌, ◌≤◌, ◌+◌, ◌⊎◌, length, replicate}
use Rattle.tv_kleene.specs.declared.K3.TheVariants.{No}
use Rattle.tv_row.specs.Bits.{padded}
use Rattle.tv_row.specs.Places.{AreWords, word_at}
use Rattle.tv_row.proofs.slices.clear.Given as goal

abbrev pub invariant-loop-w : goal.invariant-loop-w
invariant-loop-w l =
    ((v : ℕ) → v < l.w → word_at l.words (l.at + v) ≡ padded 0 (replicate 64 No))
    × ((p : ℕ) → (p < l.at) ⊎ (l.at + l.w ≤ p) → word_at l.words p ≡ word_at l.initial.words p)
    × (AreWords l.initial.words → AreWords l.words)
    × (length l.words ≡ length l.initial.words)
