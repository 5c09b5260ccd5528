use Rattle.std.proofs.Common.{◌≡◌, [], replicate}
use Rattle.tv_work.proofs.leaving.no_numbers.Given as goal

abbrev pub invariant-loop : goal.invariant-loop
invariant-loop l = l.lists.items ≡ replicate l.counter []
