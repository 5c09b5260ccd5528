use Rattle.std.proofs.Common.{◌≤◌, arith}
use Rattle.tv_embed.proofs.SearchLaws.{missing-le}
use Rattle.tv_embed.proofs.search.missing.Goals as goal

pub overflow_add-missing : goal.overflow_add-missing
overflow_add-missing c =
    let few : c.loop-w.missing ≤ c.loop-w.w = rw c.loop-w.invariant (missing-le c.args.images.now c.loop-w.w)
    in let small : c.args.large.now.size ≤ 256 = c.size-w-end.ensures.kept.table.size
    in grind (arith, few, small, c.from-missing.ensures)
