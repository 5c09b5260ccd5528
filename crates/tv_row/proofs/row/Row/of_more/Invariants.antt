use Rattle.std.proofs.Common.{◌-◌, ◌*◌, min, replicate}
use Rattle.tv_row.specs.Bits.{padded}
use Rattle.tv_row.proofs.RowOps.{FilledTo}
use Rattle.tv_row.proofs.row.Row.of_more.Given as goal

abbrev pub invariant-loop-p : goal.invariant-loop-p
invariant-loop-p l =
    FilledTo l.words l.p (λ v. padded (min 64 (l.size - 64 * v)) (replicate 64 l.k))
