use Rattle.std.proofs.Common.{◌≡◌, ◌++◌, drop}
use Rattle.tv_losses_text.specs.Texts.{node_losses}
use Rattle.tv_losses_text.proofs.lines.append_nodes.Given as goal

abbrev pub invariant-loop-node : goal.invariant-loop-node
invariant-loop-node l =
    l.out.items ++ node_losses l.names (drop l.node-index l.nodes) ≡ l.fn.out.items ++ node_losses l.names l.nodes
