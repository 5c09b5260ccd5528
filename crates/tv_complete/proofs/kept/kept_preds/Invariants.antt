use Rattle.std.proofs.Common.{◌≡◌, map, take}
use Rattle.tv_model.specs.Program.{pred_of}
use Rattle.tv_complete.specs.Kept.{core_if_named}
use Rattle.tv_complete.proofs.kept.kept_preds.Given as goal

-- those so far are kept
abbrev pub invariant-loop-pred : goal.invariant-loop-pred
invariant-loop-pred l =
    map pred_of l.kept.items ≡ map (λ pred. core_if_named l.names (pred_of pred)) (take l.pred-index l.preds)
