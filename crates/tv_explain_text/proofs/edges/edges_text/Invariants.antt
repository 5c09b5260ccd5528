use Rattle.std.proofs.Common.{◌≡◌, ◌++◌, drop}
use Rattle.tv_model.specs.Program.{program_of}
use Rattle.tv_explain_text.specs.Texts.{edges_text}
use Rattle.tv_explain_text.proofs.edges.edges_text.Given as goal

abbrev pub invariant-loop-number : goal.invariant-loop-number
invariant-loop-number l =
    l.out.items ++ edges_text (program_of l.program) l.number (drop l.number l.heads)
    ≡ edges_text (program_of l.program) 0 l.heads
