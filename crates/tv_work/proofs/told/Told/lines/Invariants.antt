use Rattle.tv_work.specs.Told.{AreLinesTo}
use Rattle.tv_work.proofs.told.Told.lines.Given as goal

abbrev pub invariant-loop-edge : goal.invariant-loop-edge
invariant-loop-edge l = AreLinesTo l.self l.edge 0 l.lines
