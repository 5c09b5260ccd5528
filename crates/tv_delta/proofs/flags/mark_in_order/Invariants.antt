use Rattle.std.proofs.Common.{Bool, List, ◌≡◌, length}
use Rattle.tv_model.specs.Program.{PredForm}
use Rattle.tv_delta.specs.Flags.{AreMentionLists, IsMarking}
use Rattle.tv_delta.proofs.flags.mark_in_order.Given as goal

abbrev pub invariant-loop-q : goal.invariant-loop-q
invariant-loop-q l = record {
  long : length l.flags.items ≡ length l.fn.flags.items;
  marks : (preds : List PredForm) (old : List Bool) → AreMentionLists preds l.uses.lists.items
      → IsMarking preds old l.fn.flags.items → IsMarking preds old l.flags.items;
}
