use Rattle.std.proofs.Common.{◌≡◌, map, take}
use Rattle.tv_struct.specs.LayoutForm.{starts_from, end_from}
use Rattle.tv_struct.proofs.layout.laid.Given as goal

abbrev pub invariant-loop-pred : goal.invariant-loop-pred
invariant-loop-pred l = record {
  arities : l.arities.items ≡ take l.pred-index (map (λ pred. pred.arity) l.preds);
  singles : l.singles.items ≡ starts_from 0 0 (take l.pred-index (map (λ pred. pred.arity) l.preds));
  next : l.single ≡ end_from 0 0 (take l.pred-index (map (λ pred. pred.arity) l.preds));
}
