use Rattle.tv_blur.proofs.FillLaws.{HasRows}
use Rattle.tv_blur.proofs.merge.put_more_rows.Given as goal

abbrev pub invariant-loop-w : goal.invariant-loop-w
invariant-loop-w l = HasRows l.classes l.s l.p.0 l.w l.initial.t l.t
