use Rattle.std.proofs.Common.{◌≡◌, ◌++◌, drop}
use Rattle.tv_rules.specs.Flags.{true_places}
use Rattle.tv_rules.proofs.watch.numbers.Given as goal

abbrev pub invariant-loop-number : goal.invariant-loop-number
invariant-loop-number l = l.numbers ++ true_places l.number (drop l.number l.flags) ≡ true_places 0 l.flags
