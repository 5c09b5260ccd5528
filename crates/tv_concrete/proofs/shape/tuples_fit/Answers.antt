-- The tuples of each predicate so far fit.
use Rattle.std.proofs.Common.{All}
use Rattle.tv_model.specs.Heap.{IsTuple, extent}
use Rattle.tv_concrete.specs.Lists.{heap_of}
use Rattle.tv_concrete.proofs.EachPreds.{preds-more, preds-false, preds-true}
use Rattle.tv_concrete.proofs.shape.tuples_fit.Goals as goal

pub returns-then-not-extent_fits : goal.returns-then-not-extent_fits
returns-then-not-extent_fits c =
    preds-false (λ q d. All (IsTuple (heap_of c.args.heap.now) d.arity)
    (extent (heap_of c.args.heap.now) q)) c.args.preds.now
    c.loop-q.q c.index-preds-q.result c.loop-q-test.true c.index-preds-q.is c.if-not-extent_fits.ensures

pub loop-q-preserved : goal.loop-q-preserved
loop-q-preserved c =
    preds-more (λ q d. All (IsTuple (heap_of c.args.heap.now) d.arity)
    (extent (heap_of c.args.heap.now) q)) c.args.preds.now
    c.loop-q.q c.index-preds-q.result c.loop-q-test.true c.index-preds-q.is c.loop-q.invariant c.if-not-extent_fits.ensures

pub returns : goal.returns
returns c =
    preds-true (λ q d. All (IsTuple (heap_of c.args.heap.now) d.arity)
    (extent (heap_of c.args.heap.now) q)) c.args.preds.now
    c.loop-q.q c.loop-q-test.false c.loop-q.invariant
