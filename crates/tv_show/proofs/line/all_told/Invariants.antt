use Rattle.std.proofs.Common.{◌≡◌, ◌++◌, drop}
use Rattle.tv_show.specs.Named.{all_told}
use Rattle.tv_show.proofs.line.all_told.Given as goal

abbrev pub invariant-loop-p : goal.invariant-loop-p
invariant-loop-p l = l.all.items ++ all_told l.s l.p (drop l.p l.preds) ≡ all_told l.s 0 l.preds
