use Rattle.std.proofs.Common.{◌≡◌, map, take}
use Rattle.tv_plang_laws.specs.Compiled.{node_name}
use Rattle.tv_plang.proofs.nodes.Positions.names.Given as goal

abbrev pub invariant-loop-position : goal.invariant-loop-position
invariant-loop-position l = l.names.items ≡ map (node_name l.last) (take l.position-index l.position-items)
