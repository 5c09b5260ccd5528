use Rattle.std.proofs.Common.{◌≡◌, ◌++◌, drop, map}
use Rattle.std.specs.List.{flat_map}
use Rattle.tv_model.specs.Program.{update_of, pred_of}
use Rattle.tv_compiled.specs.Parts.{update_text}
use Rattle.tv_compiled.proofs.parts.append_each_update.Given as goal

-- what is written and what is left are all of it
abbrev pub invariant-loop-update : goal.invariant-loop-update
invariant-loop-update l = l.out.items ++ flat_map (update_text (map pred_of l.preds)) (map update_of (drop l.update-index l.updates))
    ≡ l.initial.out.items ++ flat_map (update_text (map pred_of l.preds)) (map update_of (l.updates))
