use Rattle.tv_work.specs.Told.{AreLinesTo}
use Rattle.tv_work.proofs.told.Told.push_lines.Given as goal

abbrev pub invariant-loop-number : goal.invariant-loop-number
invariant-loop-number l = AreLinesTo l.self l.edge l.number l.lines
