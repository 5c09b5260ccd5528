use Rattle.std.proofs.Common.{◌≡◌, map, take}
use Rattle.tv_model.specs.Program.{pred_of}
use Rattle.tv_vocab.specs.Vocabulary.{uses_of}
use Rattle.tv_vocab.proofs.cycles.all_uses.Given as goal

abbrev pub invariant-loop-pred : goal.invariant-loop-pred
invariant-loop-pred l = map (λ one. one.items) l.uses.items ≡ uses_of (map pred_of (take l.pred-index l.preds))
