use Rattle.std.proofs.Common.{◌≡◌, ◌++◌, drop, map}
use Rattle.tv_model.specs.Program.{action_of, pred_of}
use Rattle.tv_compiled.specs.Whole.{actions_text}
use Rattle.tv_compiled.proofs.program.append_actions.Given as goal

-- what is written and what is left are all of it
abbrev pub invariant-loop-number : goal.invariant-loop-number
invariant-loop-number l =
    l.out.items ++ actions_text (map pred_of l.preds) l.notes l.number (map action_of (drop l.number l.actions))
    ≡ l.initial.out.items ++ actions_text (map pred_of l.preds) l.notes 0 (map action_of l.actions)
