-- Each tuple so far fits.
use Rattle.tv_concrete.proofs.Every.{every-more, every-false, every-true}
use Rattle.tv_model.specs.Heap.{IsTuple}
use Rattle.tv_concrete.specs.Lists.{heap_of}
use Rattle.tv_concrete.proofs.shape.extent_fits.Goals as goal

pub returns-then-not-is_tuple : goal.returns-then-not-is_tuple
returns-then-not-is_tuple c =
    rw (← c.extent-tuple-items.ensures) (every-false
    (IsTuple (heap_of c.args.heap.now) c.args.arity) c.extent-tuple-items.result.now c.loop-tuple.tuple-index c.tuple-item.result c.loop-tuple-test.true
    c.tuple-item.is c.if-not-is_tuple.ensures)

pub loop-tuple-preserved : goal.loop-tuple-preserved
loop-tuple-preserved c =
    every-more (IsTuple (heap_of c.args.heap.now) c.args.arity) c.extent-tuple-items.result.now c.loop-tuple.tuple-index c.tuple-item.result c.loop-tuple-test.true
    c.tuple-item.is c.loop-tuple.invariant c.if-not-is_tuple.ensures

pub returns : goal.returns
returns c =
    rw (← c.extent-tuple-items.ensures) (every-true
    (IsTuple (heap_of c.args.heap.now) c.args.arity) c.extent-tuple-items.result.now c.loop-tuple.tuple-index c.loop-tuple-test.false c.loop-tuple.invariant)
