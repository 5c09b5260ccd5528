use Rattle.tv_blur.proofs.FillLaws.{HasSummaries}
use Rattle.tv_blur.proofs.merge.put_summaries.Given as goal

abbrev pub invariant-loop-w : goal.invariant-loop-w
invariant-loop-w l = HasSummaries l.classes l.s l.w l.t
