use Rattle.std.proofs.Common.{◌≡◌, map, take}
use Rattle.tv_model.specs.Program.{pred_of}
use Rattle.tv_delta.proofs.vocab.copy_vocab.Given as goal

abbrev pub invariant-loop-pred : goal.invariant-loop-pred
invariant-loop-pred l = map pred_of l.out.items ≡ map pred_of (take l.pred-index l.preds)
