use Rattle.std.proofs.Common.{◌≡◌, ◌++◌, map, drop}
use Rattle.tv_tree.specs.Copies.{edge_of}
use Rattle.tv_edge_heads.proofs.places.edge_starts.Given as goal
use Rattle.tv_edge_heads.specs.Widths.{edge_starts}

abbrev pub invariant-loop-edge : goal.invariant-loop-edge
invariant-loop-edge l =
    l.starts.items ++ edge_starts l.rest (map edge_of (drop l.edge-index l.edges)) ≡ edge_starts l.tokens (map edge_of l.edges)
