use Rattle.std.proofs.Common.{◌+◌}
use Rattle.tv_row.specs.Places.{word_at}
use Rattle.tv_row.proofs.RowOps.{FilledTo}
use Rattle.tv_row.proofs.packed.PackedWords.row_more.Given as goal

abbrev pub invariant-loop-p : goal.invariant-loop-p
invariant-loop-p l = FilledTo l.held l.p (λ v. word_at l.self.words (l.start + v))
