use Rattle.std.proofs.Common.{◌≡◌, [], drop}
use Rattle.std.specs.List.{flat_map, fold}
use Rattle.tv_plang_laws.specs.Compiled.{ends}
use Rattle.tv_plang.specs.Arcs.{arcs_of}
use Rattle.tv_plang.specs.Nodes.{seen}
use Rattle.tv_plang.proofs.nodes.Positions.of.Given as goal

-- what was seen so far, and what is left, is all
abbrev pub invariant-loop-arc : goal.invariant-loop-arc
invariant-loop-arc l = fold seen l.places.list.keys (flat_map ends (arcs_of (drop l.arc-index l.arcs))) ≡ fold seen [] (flat_map ends (arcs_of l.arcs))
