use Rattle.std.proofs.Common.{◌-◌, ◌*◌, min, map}
use Rattle.tv_kleene.specs.Kleene.{negation_of}
use Rattle.tv_row.specs.Bits.{padded}
use Rattle.tv_row.specs.Places.{word_at}
use Rattle.tv_row.proofs.RowOps.{FilledTo}
use Rattle.tv_row.proofs.row.Row.not_more.Given as goal

abbrev pub invariant-loop-p : goal.invariant-loop-p
invariant-loop-p l =
    FilledTo l.words l.p (λ v. padded (min 64 (l.self-inside.size - 64 * v)) (map negation_of (word_at l.self-inside.words v)))
