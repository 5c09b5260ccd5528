use Rattle.std.proofs.Common.{map, take}
use Rattle.tv_model.specs.Program.{pred_of}
use Rattle.tv_delta.specs.Flags.{AreMentionLists}
use Rattle.tv_delta.proofs.uses.mentioned_by_each.Given as goal

abbrev pub invariant-loop-pred : goal.invariant-loop-pred
invariant-loop-pred l = AreMentionLists (map pred_of (take l.pred-index l.preds)) l.lists.items
