use Rattle.std.proofs.Common.{◌≡◌, length, min}
use Rattle.std.specs.List.{range_with_len}
use Rattle.tv_update_laws.specs.Picks.{lists_of}
use Rattle.tv_step.proofs.picks.are_few.Given as goal

abbrev pub invariant-loop : goal.invariant-loop
invariant-loop l = l.total ≡ min (length (lists_of (range_with_len 0 l.size) l.counter)) 4097
