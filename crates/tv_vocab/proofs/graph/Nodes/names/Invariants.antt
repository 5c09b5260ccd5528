use Rattle.std.proofs.Common.{◌≡◌, map, take}
use Rattle.tv_vocab.proofs.graph.Nodes.names.Given as goal

abbrev pub invariant-loop-name : goal.invariant-loop-name
invariant-loop-name l = l.names.items ≡ map (λ name. name.items) (take l.name-index l.name-items)
