use Rattle.std.proofs.Common.{◌-◌, ◌*◌, min}
use Rattle.tv_row.specs.Bits.{padded}
use Rattle.tv_row.specs.Places.{word_at}
use Rattle.tv_row.proofs.RowOps.{FilledTo}
use Rattle.tv_row.proofs.row.Row.first_more.Given as goal

abbrev pub invariant-loop-p : goal.invariant-loop-p
invariant-loop-p l =
    FilledTo l.words l.p (λ v. padded (min 64 (l.size - 64 * v)) (word_at l.self-inside.words v))
