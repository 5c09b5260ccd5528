use Rattle.tv_blur.proofs.RowLaws.{AreMerged}
use Rattle.tv_blur.proofs.values.merged_row.Given as goal

abbrev pub invariant-loop-w : goal.invariant-loop-w
invariant-loop-w l = AreMerged l.row l.classes l.w l.merged
