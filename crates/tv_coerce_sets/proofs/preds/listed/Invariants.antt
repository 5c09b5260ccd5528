use Rattle.std.proofs.Common.{◌≡◌, map, take}
use Rattle.tv_coerce_sets.proofs.preds.listed.Given as goal

abbrev pub invariant-loop-update : goal.invariant-loop-update
invariant-loop-update l = l.preds.items ≡ map (λ w. w.pred.0) (take l.update-index l.updates)
