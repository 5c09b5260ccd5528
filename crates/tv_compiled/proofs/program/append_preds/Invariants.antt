use Rattle.std.proofs.Common.{◌≡◌, ◌++◌, drop, map}
use Rattle.std.specs.List.{flat_map}
use Rattle.tv_model.specs.Program.{pred_of}
use Rattle.tv_compiled.specs.Parts.{pred_text}
use Rattle.tv_compiled.proofs.program.append_preds.Given as goal

-- what is written and what is left are all of it
abbrev pub invariant-loop-pred : goal.invariant-loop-pred
invariant-loop-pred l = l.out.items ++ flat_map (pred_text (map pred_of l.preds)) (map pred_of (drop l.pred-index l.preds))
    ≡ l.initial.out.items ++ flat_map (pred_text (map pred_of l.preds)) (map pred_of (l.preds))
