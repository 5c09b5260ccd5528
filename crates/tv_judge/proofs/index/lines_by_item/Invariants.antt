use Rattle.tv_judge.proofs.IndexLaws.{IsNotedTo}
use Rattle.tv_judge.proofs.index.lines_by_item.Given as goal

abbrev pub invariant-loop-line : goal.invariant-loop-line
invariant-loop-line l = IsNotedTo l.index.entries l.lines l.line-index
