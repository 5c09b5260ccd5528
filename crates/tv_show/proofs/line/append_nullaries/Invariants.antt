use Rattle.std.proofs.Common.{◌≡◌, ◌++◌, drop}
use Rattle.tv_show.specs.Rows.{each_pred, nullary_marked}
use Rattle.tv_show.proofs.line.append_nullaries.Given as goal

abbrev pub invariant-loop-p : goal.invariant-loop-p
invariant-loop-p l =
    l.out.items ++ each_pred 0 (nullary_marked l.s) l.p (drop l.p l.preds)
    ≡ l.initial.out.items ++ each_pred 0 (nullary_marked l.s) 0 l.preds
