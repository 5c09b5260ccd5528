use Rattle.std.proofs.Common.{◌≡◌, ◌++◌, drop, map}
use Rattle.std.specs.List.{flat_map}
use Rattle.tv_compiled.specs.Whole.{edge_text}
use Rattle.tv_compiled.proofs.program.append_edges.Given as goal

-- what is written and what is left are all of it
abbrev pub invariant-loop-edge : goal.invariant-loop-edge
invariant-loop-edge l = l.out.items ++ flat_map (edge_text l.nodes l.notes) (drop l.edge-index l.edges)
    ≡ l.initial.out.items ++ flat_map (edge_text l.nodes l.notes) (l.edges)
