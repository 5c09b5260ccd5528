use Rattle.tv_names.specs.Copies.{symbols_of}
use Rattle.tv_flat.specs.FlatForm.{parts_of}
use Rattle.tv_model.specs.Program.{pred_of, action_of}
use Rattle.tv_vocab.specs.Actions.{action}
use Rattle.std.proofs.Common.{◌≡◌, map}
use Rattle.tv_names.proofs.Loops.{left}
use Rattle.tv_names.specs.Refusal.{put_behind, each}
use Rattle.tv_vocab.proofs.actions.actions.Given as goal

-- what the items so far gave, and those that are left, give what all give
abbrev pub invariant-loop-item : goal.invariant-loop-item
invariant-loop-item l = each (action (symbols_of l.symbols) (map pred_of l.preds)) (map parts_of l.flat) ≡ left (put_behind (action (symbols_of l.symbols) (map pred_of l.preds))) parts_of (map action_of l.done.items) l.item-index l.flat
