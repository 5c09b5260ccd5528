use Rattle.std.proofs.Common.{◌≡◌, [], replicate}
use Rattle.tv_join.proofs.values.MessageValues.new.Given as goal

abbrev pub invariant-loop : goal.invariant-loop
invariant-loop l = l.rows.items ≡ replicate l.counter []
