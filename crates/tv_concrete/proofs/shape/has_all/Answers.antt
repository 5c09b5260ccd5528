-- Each element so far is an individual.
use Rattle.std.proofs.Common.{get_or}
use Rattle.std.proofs.lemmas.List.{get_or_default}
use Rattle.tv_concrete.proofs.Every.{every-more, every-false, every-true}
use Rattle.std.proofs.Common.{Contains}
use Rattle.tv_concrete.proofs.shape.has_all.Goals as goal

pub returns-then-not-has : goal.returns-then-not-has
returns-then-not-has c =
    (every-false (Contains c.args.heap.now.individuals) c.args.tuple.now c.loop-u.u-index
    (get_or c.args.tuple.now c.loop-u.u-index 0) c.loop-u-test.true
    (get_or_default c.args.tuple.now c.loop-u.u-index 0
    (get_or c.args.tuple.now c.loop-u.u-index 0) c.loop-u-test.true) c.if-not-has.ensures)

pub loop-u-preserved : goal.loop-u-preserved
loop-u-preserved c =
    every-more (Contains c.args.heap.now.individuals) c.args.tuple.now c.loop-u.u-index
    (get_or c.args.tuple.now c.loop-u.u-index 0) c.loop-u-test.true
    (get_or_default c.args.tuple.now c.loop-u.u-index 0
    (get_or c.args.tuple.now c.loop-u.u-index 0) c.loop-u-test.true) c.loop-u.invariant c.if-not-has.ensures

pub returns : goal.returns
returns c =
    (every-true (Contains c.args.heap.now.individuals) c.args.tuple.now c.loop-u.u-index c.loop-u-test.false c.loop-u.invariant)
