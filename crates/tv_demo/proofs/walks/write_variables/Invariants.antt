use Rattle.std.proofs.Common.{◌≡◌, ◌++◌}
use Rattle.tv_demo.specs.Texts.{variables_text}
use Rattle.tv_demo.proofs.walks.write_variables.Given as goal

abbrev pub invariant-loop-i : goal.invariant-loop-i
invariant-loop-i l = l.out.items ≡ l.initial.out.items ++ variables_text l.i
