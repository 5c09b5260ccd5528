use Rattle.tv_names.specs.Copies.{symbols_of}
use Rattle.tv_tree.specs.Copies.{update_of as nest_of}
use Rattle.tv_model.specs.Program.{pred_of, update_of}
use Rattle.tv_vocab.specs.Copies.{picking_of}
use Rattle.tv_vocab.specs.Actions.{with_update}
use Rattle.std.proofs.Common.{◌≡◌, map, []}
use Rattle.tv_names.proofs.Loops.{left}
use Rattle.tv_names.specs.Refusal.{one_by_one}
use Rattle.tv_vocab.proofs.updates.updates.Given as goal

-- what the items so far gave, and those that are left, give what all give
abbrev pub invariant-loop-item : goal.invariant-loop-item
invariant-loop-item l = one_by_one (with_update (symbols_of l.at.symbols.now) (map pred_of l.at.preds.now) l.at.fresh (picking_of l.picking)) [] (map nest_of l.block) ≡ left (with_update (symbols_of l.at.symbols.now) (map pred_of l.at.preds.now) l.at.fresh (picking_of l.picking)) nest_of (map update_of l.done.items) l.item-index l.block
