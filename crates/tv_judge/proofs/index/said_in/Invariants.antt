use Rattle.tv_judge.proofs.IndexLaws.{AreSaidTo}
use Rattle.tv_judge.proofs.index.said_in.Given as goal

abbrev pub invariant-loop-line : goal.invariant-loop-line
invariant-loop-line l = AreSaidTo l.said.keys l.lines l.line-index
