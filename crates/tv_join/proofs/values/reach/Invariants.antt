use Rattle.std.proofs.Common.{◌+◌, ◌-◌, length}
use Rattle.tv_join.specs.Values.{AreValuesAsBefore}
use Rattle.tv_join.proofs.values.reach.Given as goal

abbrev pub invariant-loop-alloc : goal.invariant-loop-alloc
invariant-loop-alloc l = AreValuesAsBefore l.initial.places.items l.places.items

abbrev pub decreases-loop-alloc : goal.decreases-loop-alloc
decreases-loop-alloc l = (l.place + 1) - length l.places.items
