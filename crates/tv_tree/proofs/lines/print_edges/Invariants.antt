use Rattle.std.proofs.Common.{◌≡◌, ◌++◌, drop, map}
use Rattle.std.specs.Prelude.{codes}
use Rattle.std.specs.List.{flat_map}
use Rattle.tv_tree.specs.Copies.{edge_of}
use Rattle.tv_tree.specs.Printed.{text_of_lines, edge_lines}
use Rattle.tv_tree.proofs.lines.print_edges.Given as goal

-- what is printed and what is left are all of it
abbrev pub invariant-loop-edge : goal.invariant-loop-edge
invariant-loop-edge l = l.out.items ++ text_of_lines (flat_map edge_lines (map edge_of (drop l.edge-index l.edges))) ≡ l.initial.out.items ++ text_of_lines (flat_map edge_lines (map edge_of l.edges))
