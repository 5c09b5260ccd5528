use Rattle.std.proofs.Common.{◌∙◌, ◌-◌, ◌*◌, min, ap, arith, replicate}
use Rattle.tv_row.specs.Bits.{padded}
use Rattle.tv_row.proofs.RowOps.{FilledTo, alone_filled, copies_hold, copies_row}
use Rattle.tv_row.proofs.row.Row.of.Goals as goal

filled : (c : goal.After-alone) → FilledTo c.alone.result 1 (λ p. padded (min 64 (c.args.size - 64 * p)) (replicate 64 c.args.k))
filled c =
    alone_filled c.alone.result (λ p. padded (min 64 (c.args.size - 64 * p)) (replicate 64 c.args.k)) c.of.result c.alone.ensures
    (c.of.ensures ∙ ap (λ n. padded n (replicate 64 c.args.k)) (omega (arith, c.if-size-le64.true)))

pub invariant_of-result : goal.invariant_of-result
invariant_of-result c =
    copies_hold c.alone.result c.args.size 1 c.args.k c.requires (omega (arith, c.if-size-le64.true)) (filled c)

pub returns-then-size-le64 : goal.returns-then-size-le64
returns-then-size-le64 c =
    copies_row c.alone.result c.args.size 1 c.args.k c.requires (omega (arith, c.if-size-le64.true)) (filled c)
