-- Each element so far is an individual.
use Rattle.std.specs.List.{AllWithin}
use Rattle.std.proofs.Common.{Contains}
use Rattle.tv_concrete.proofs.shape.has_all.Given as goal

abbrev pub invariant-loop-u : goal.invariant-loop-u
invariant-loop-u l = AllWithin (Contains l.heap.individuals) l.tuple 0 l.u-index
