use Rattle.std.proofs.Common.{◌≡◌, ◌++◌, map, drop}
use Rattle.tv_model.specs.Program.{pred_of}
use Rattle.tv_losses_unmet.specs.Alone.{preds_alone}
use Rattle.tv_losses_unmet.proofs.alone.preds_alone.Given as goal

abbrev pub invariant-loop-number : goal.invariant-loop-number
invariant-loop-number l =
    map pred_of l.all ++ preds_alone l.claim l.number (map pred_of (drop l.number l.preds))
    ≡ preds_alone l.claim 0 (map pred_of l.preds)
