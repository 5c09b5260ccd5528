use Rattle.std.proofs.Common.{List, not}
use Rattle.std.specs.Prelude.{count_by, ◌≡◌, length}
use Rattle.tv_model.specs.Program.{PredForm}
use Rattle.tv_delta.specs.Flags.{AreMentionLists, IsMarking}
use Rattle.tv_delta.proofs.flags.mark.Given as goal

abbrev pub invariant-loop-q : goal.invariant-loop-q
invariant-loop-q l = record {
  long : length l.uses.lists.items ≡ length l.flags.items;
  marks : (preds : List PredForm) → AreMentionLists preds l.uses.lists.items
      → IsMarking preds l.fn.flags.items l.flags.items;
}

abbrev pub decreases-loop-q : goal.decreases-loop-q
decreases-loop-q l = count_by (λ flag. not flag) l.flags.items
