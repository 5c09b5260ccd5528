use Rattle.tv_judge.specs.Progress.{AreSaidBelow}
use Rattle.tv_judge.specs.Setting.{case_in}
use Rattle.tv_judge.proofs.steps.first_unsaid.Given as goal

abbrev pub invariant-loop-number : goal.invariant-loop-number
invariant-loop-number l = AreSaidBelow (case_in l.x) l.at.edge l.at.structure l.number
