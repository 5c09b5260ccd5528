use Rattle.std.proofs.Common.{◌≡◌, ◌+◌, map, drop}
use Rattle.tv_tree.specs.Copies.{edge_of}
use Rattle.tv_edge_heads.specs.Widths.{edges_width}
use Rattle.tv_edge_heads.proofs.places.edges_width.Given as goal

abbrev pub invariant-loop-edge : goal.invariant-loop-edge
invariant-loop-edge l = l.width + edges_width (map edge_of (drop l.edge-index l.edges)) ≡ edges_width (map edge_of l.edges)
