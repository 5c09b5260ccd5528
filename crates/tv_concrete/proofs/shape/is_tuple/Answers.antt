use Rattle.std.proofs.Common.{◌≡◌, length, All, Contains, sym, ◌∙◌}
use Rattle.tv_concrete.proofs.Every.{both-second}
use Rattle.tv_concrete.proofs.shape.is_tuple.Goals as goal

pub returns-then-len-n : goal.returns-then-len-n
returns-then-len-n c =
    both-second (length c.args.tuple.now ≡ c.args.n)
    (All (Contains c.args.heap.now.individuals) c.args.tuple.now) c.has_all.result
    (sym c.len.ensures ∙ c.if-len-n.true) (rw (← c.as_slice.ensures) c.has_all.ensures)
