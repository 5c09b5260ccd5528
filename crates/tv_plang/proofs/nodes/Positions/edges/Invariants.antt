use Rattle.std.proofs.Common.{◌≡◌, ◌++◌, drop}
use Rattle.tv_plang_laws.specs.Compiled.{edges_between}
use Rattle.tv_plang.specs.Arcs.{arcs_of}
use Rattle.tv_plang.proofs.nodes.Positions.edges.Given as goal

abbrev pub invariant-loop-arc : goal.invariant-loop-arc
invariant-loop-arc l =
    (l.action ≡ l.arc-index)
    × (l.edges.items ++ edges_between l.self.list.keys l.action (arcs_of (drop l.arc-index l.arcs)) ≡ edges_between l.self.list.keys 0 (arcs_of l.arcs))
