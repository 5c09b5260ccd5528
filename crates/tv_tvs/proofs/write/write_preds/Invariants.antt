use Rattle.std.proofs.Common.{◌≡◌, ◌++◌, drop}
use Rattle.tv_tvs.specs.Canonical.{preds_text}
use Rattle.tv_tvs.proofs.write.write_preds.Given as goal

abbrev pub invariant-loop-p : goal.invariant-loop-p
invariant-loop-p l =
    l.out ++ preds_text l.s l.p (drop l.p l.preds) ≡ l.initial.out ++ preds_text l.s 0 l.preds
