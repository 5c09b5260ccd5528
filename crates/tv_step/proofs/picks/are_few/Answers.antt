use Rattle.std.proofs.Common.{length, add-one}
use Rattle.std.specs.List.{range_with_len}
use Rattle.std.proofs.lemmas.List.FromFn.{length-range_with_len}
use Rattle.tv_update_laws.specs.Picks.{lists_of}
use Rattle.tv_step.proofs.Picking.{cut-next, lists-count}
use Rattle.tv_step.proofs.picks.are_few.Goals as goal

pub loop-preserved : goal.loop-preserved
loop-preserved c =
    let us = range_with_len 0 c.args.size
    in let n = c.loop.counter
    in rw (add-one, lists-count us n, length-range_with_len)
    (cut-next (length (lists_of us n)) c.args.size c.loop.total c.min-total.result c.loop.invariant
    c.min-total.ensures)
