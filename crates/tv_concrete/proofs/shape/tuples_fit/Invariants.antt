-- The tuples of each predicate so far fit.
use Rattle.std.proofs.Common.{All}
use Rattle.tv_model.specs.Heap.{IsTuple, extent}
use Rattle.tv_concrete.specs.Lists.{heap_of}
use Rattle.tv_concrete.proofs.EachPreds.{FirstPreds}
use Rattle.tv_concrete.proofs.shape.tuples_fit.Given as goal

abbrev pub invariant-loop-q : goal.invariant-loop-q
invariant-loop-q l = FirstPreds (λ q d. All (IsTuple (heap_of l.heap) d.arity) (extent (heap_of l.heap) q)) l.preds l.q
