-- Each tuple so far fits.
use Rattle.std.specs.List.{AllWithin}
use Rattle.tv_model.specs.Heap.{IsTuple}
use Rattle.tv_concrete.specs.Lists.{heap_of}
use Rattle.tv_concrete.proofs.shape.extent_fits.Given as goal

abbrev pub invariant-loop-tuple : goal.invariant-loop-tuple
invariant-loop-tuple l = AllWithin (IsTuple (heap_of l.heap) l.arity) l.tuple-items 0 l.tuple-index
