-- Each predicate so far is as defined.
use Rattle.std.proofs.Common.{List}
use Rattle.tv_model.specs.Heap.{IsTuple}
use Rattle.tv_model.specs.Rules.{MeetsDefinition}
use Rattle.tv_concrete.specs.Lists.{heap_of}
use Rattle.tv_concrete.proofs.EachPreds.{FirstPreds}
use Rattle.tv_concrete.proofs.shape.is_concrete.Given as goal

abbrev pub invariant-loop-q : goal.invariant-loop-q
invariant-loop-q l =
    FirstPreds (λ q d. (tuple : List _) → IsTuple (heap_of l.heap) d.arity tuple
    → MeetsDefinition (heap_of l.heap) q d.kind tuple) l.pred-items l.q
