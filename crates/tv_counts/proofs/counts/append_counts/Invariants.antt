use Rattle.std.proofs.Common.{◌≡◌, ◌++◌, drop}
use Rattle.tv_counts.specs.Counts.{node_counts}
use Rattle.tv_counts.proofs.counts.append_counts.Given as goal

abbrev pub invariant-loop-number : goal.invariant-loop-number
invariant-loop-number l =
    l.out.items ++ node_counts l.listing l.number (drop l.number l.program.nodes)
    ≡ l.initial.out.items ++ node_counts l.listing 0 l.program.nodes
