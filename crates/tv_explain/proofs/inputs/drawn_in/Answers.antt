use Rattle.tv_explain.proofs.Trees.{drawn}
use Rattle.tv_explain.proofs.inputs.drawn_in.Goals as goal

pub returns-in-Ok-clause-means : goal.returns-in-Ok-clause-means
returns-in-Ok-clause-means c =
    drawn c.edges_are_kept.ensures c.args.gathered.now _ c.in-Ok.heads
    (rw c.deref.ensures.value at c.in_ok-tokens.ensures.means) c.in-Ok.ensures
