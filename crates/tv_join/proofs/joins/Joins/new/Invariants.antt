use Rattle.std.proofs.Common.{◌≡◌, replicate}
use Rattle.tv_join.specs.State.{no_members}
use Rattle.tv_join.proofs.joins.Joins.new.Given as goal

abbrev pub invariant-loop : goal.invariant-loop
invariant-loop l = l.empty.items ≡ replicate l.counter no_members
