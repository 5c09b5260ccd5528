use Rattle.std.proofs.Common.{◌≡◌, ◌++◌, drop, map}
use Rattle.tv_model.specs.Program.{pred_of}
use Rattle.tv_complete_text.specs.Lines.{missing_lines}
use Rattle.tv_complete_text.specs.Named.{named_form}
use Rattle.tv_complete_text.proofs.lines.Completed.lines.Given as goal

-- what is written and what is left are all of it
abbrev pub invariant-loop-p : goal.invariant-loop-p
invariant-loop-p l =
    l.out.items ++ missing_lines l.indent (named_form l.self.bytes.now l.self.named.now) l.self.t.now l.p
    (map pred_of (drop l.p l.preds))
    ≡ missing_lines l.indent (named_form l.self.bytes.now l.self.named.now) l.self.t.now 0 (map pred_of l.preds)
