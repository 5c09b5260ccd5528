use Rattle.std.proofs.Common.{◌≡◌, ◌++◌, drop}
use Rattle.std.specs.List.{flat_map, zip}
use Rattle.tv_report.specs.Text.{node_text, nodes_text}
use Rattle.tv_report.proofs.write.write_nodes.Given as goal

abbrev pub invariant-loop-number : goal.invariant-loop-number
invariant-loop-number l =
    l.out.items ++ flat_map (λ node. node_text l.program.vocab node.0 node.1) (drop l.number (zip l.program.nodes l.listing))
    ≡ l.initial.out.items ++ nodes_text l.program.vocab l.program.nodes l.listing
