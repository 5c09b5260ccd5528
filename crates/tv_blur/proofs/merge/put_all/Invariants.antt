use Rattle.tv_blur.specs.Classes.{HasMerged, IsBlankFrom}
use Rattle.tv_blur.proofs.merge.put_all.Given as goal

abbrev pub invariant-loop-p : goal.invariant-loop-p
invariant-loop-p l = HasMerged l.classes l.s l.p l.t × IsBlankFrom l.p l.t
