use Rattle.std.proofs.Common.{ℕ, ◌≡◌, ◌<◌, ◌≤◌, ◌+◌, ◌*◌, ◌⊎◌, length, get_or}
use Rattle.tv_kleene.specs.declared.K3.TheVariants.{No}
use Rattle.tv_row.specs.Places.{word_at}
use Rattle.tv_row.proofs.packed.PackedWords.put_row.Given as goal

abbrev pub invariant-loop-p : goal.invariant-loop-p
invariant-loop-p l =
    ((v i : ℕ) → v < l.p → i < 64 → get_or (word_at l.self.words (l.start + v)) i No ≡ get_or l.row (64 * v + i) No)
    × ((q : ℕ) → (q < l.start) ⊎ (l.start + l.p ≤ q) → word_at l.self.words q ≡ word_at l.initial.self.words q)
    × (length l.self.words ≡ length l.initial.self.words)
    × (l.self.cells ≡ l.initial.self.cells)
