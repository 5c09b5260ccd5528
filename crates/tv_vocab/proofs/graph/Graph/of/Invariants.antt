use Rattle.tv_flat.specs.FlatForm.{flat_edge_of}
use Rattle.tv_vocab.specs.Views.{graph_of}
use Rattle.tv_vocab.specs.Graph.{with_edge, no_graph}
use Rattle.std.proofs.Common.{◌≡◌, map}
use Rattle.tv_names.proofs.Loops.{left}
use Rattle.tv_names.specs.Refusal.{one_by_one}
use Rattle.tv_vocab.proofs.graph.Graph.of.Given as goal

-- what the items so far gave, and those that are left, give what all give
abbrev pub invariant-loop-edge : goal.invariant-loop-edge
invariant-loop-edge l = one_by_one with_edge no_graph (map flat_edge_of l.edges) ≡ left (with_edge) flat_edge_of (graph_of l.graph) l.edge-index l.edges
