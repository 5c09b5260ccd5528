use Rattle.std.proofs.Common.{◌≡◌, drop}
use Rattle.tv_show.specs.Named.{named}
use Rattle.tv_show.proofs.line.telling.Given as goal

abbrev pub invariant-loop-p : goal.invariant-loop-p
invariant-loop-p l = named l.u (drop l.p l.preds) (drop l.p l.told) ≡ named l.u l.preds l.told
