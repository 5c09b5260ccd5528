use Rattle.std.proofs.Common.{◌≡◌, ◌++◌, drop}
use Rattle.tv_show.specs.Rows.{each_pred, unary_marked}
use Rattle.tv_show.proofs.line.append_unaries.Given as goal

abbrev pub invariant-loop-p : goal.invariant-loop-p
invariant-loop-p l =
    l.out.items ++ each_pred 1 (unary_marked l.s l.u) l.p (drop l.p l.preds)
    ≡ l.initial.out.items ++ each_pred 1 (unary_marked l.s l.u) 0 l.preds
