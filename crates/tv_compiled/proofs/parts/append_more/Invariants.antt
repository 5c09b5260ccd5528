use Rattle.std.proofs.Common.{◌≡◌, ◌++◌, drop, map}
use Rattle.std.specs.List.{flat_map}
use Rattle.tv_model.specs.Form.{form_of}
use Rattle.tv_model.specs.Program.{pred_of}
use Rattle.tv_compiled.specs.Parts.{more_text}
use Rattle.tv_compiled.proofs.parts.append_more.Given as goal

-- what is written and what is left are all of it
abbrev pub invariant-loop-f : goal.invariant-loop-f
invariant-loop-f l = l.out.items ++ more_text (map pred_of l.preds) (map form_of (drop l.f-index l.focus))
    ≡ l.initial.out.items ++ more_text (map pred_of l.preds) (map form_of (l.focus))
