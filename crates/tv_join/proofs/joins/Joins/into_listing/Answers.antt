use Rattle.std.proofs.Common.{◌∙◌, ap, arith, length, set}
use Rattle.tv_join.proofs.Nodes.{filled-next}
use Rattle.tv_join.proofs.joins.Joins.into_listing.Goals as goal

pub loop-node-preserved : goal.loop-node-preserved
loop-node-preserved c =
    filled-next c.loop-node.yielded c.loop-node.number (length c.args.self.nodes) c.loop-node.listing c.push_all.new.listing
    c.in-Some.node c.loop-node.invariant (omega (arith, c.in_ok-push_all.ensures.node, c.loop-node.invariant.long))
    (c.in_ok-push_all.ensures.put ∙ ap (set c.loop-node.listing c.loop-node.number) c.into_vec.ensures)
