use Rattle.std.proofs.Common.{◌≡◌}
use Rattle.tv_real.proofs.command_line.collected.Given as goal

abbrev pub invariant-loop-word : goal.invariant-loop-word
invariant-loop-word l = l.all.items ≡ l.yielded
