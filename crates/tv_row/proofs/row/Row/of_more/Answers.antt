use Rattle.std.proofs.Common.{arith}
use Rattle.tv_row.proofs.RowOps.{copies_hold, copies_row}
use Rattle.tv_row.proofs.row.Row.of_more.Goals as goal

pub invariant_of-result : goal.invariant_of-result
invariant_of-result c =
    copies_hold c.loop-p.words c.args.size c.loop-p.p c.args.k c.requires
    (omega (arith, c.div_ceil-p-end.ensures)) c.loop-p.invariant

pub returns : goal.returns
returns c =
    copies_row c.loop-p.words c.args.size c.loop-p.p c.args.k c.requires
    (omega (arith, c.div_ceil-p-end.ensures)) c.loop-p.invariant
