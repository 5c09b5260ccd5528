use Rattle.std.proofs.Common.{◌≡◌, ◌++◌, drop}
use Rattle.tv_trace_text.specs.Text.{trace_text}
use Rattle.tv_trace_text.proofs.write.write_trace.Given as goal

abbrev pub invariant-loop-i : goal.invariant-loop-i
invariant-loop-i l = l.out.items ++ trace_text l.vocab (drop l.i l.moves) ≡ trace_text l.vocab l.moves
