-- The properties of each predicate so far are met.
use Rattle.std.proofs.Common.{◌↔◌, All, Bool, IsTrue, subst}
use Rattle.tv_model.specs.Rules.{MeetsRule, property_rules}
use Rattle.tv_concrete.specs.Lists.{heap_of}
use Rattle.tv_concrete.proofs.EachPreds.{preds-more, preds-false, preds-true}
use Rattle.tv_concrete.proofs.properties.meets_all_properties.Goals as goal

pub returns-then-not-branch : goal.returns-then-not-branch
returns-then-not-branch c =
    let Answer : Bool → Type 0 = λ b. IsTrue b
    ↔ All (MeetsRule (heap_of c.args.heap.now)) (property_rules c.loop-q.q c.index-preds-q.result.props)
    in preds-false (λ q d. All (MeetsRule (heap_of c.args.heap.now))
    (property_rules q d.props)) c.args.preds.now c.loop-q.q c.index-preds-q.result c.loop-q-test.true c.index-preds-q.is
    (subst Answer c.if-not-branch.true c.in_ok-meets_properties.ensures)

pub loop-q-preserved : goal.loop-q-preserved
loop-q-preserved c =
    let Answer : Bool → Type 0 = λ b. IsTrue b
    ↔ All (MeetsRule (heap_of c.args.heap.now)) (property_rules c.loop-q.q c.index-preds-q.result.props)
    in preds-more (λ q d. All (MeetsRule (heap_of c.args.heap.now))
    (property_rules q d.props)) c.args.preds.now c.loop-q.q c.index-preds-q.result c.loop-q-test.true c.index-preds-q.is c.loop-q.invariant
    (subst Answer c.if-not-branch.false c.in_ok-meets_properties.ensures)

pub returns : goal.returns
returns c = preds-true (λ q d. All (MeetsRule (heap_of c.args.heap.now))
    (property_rules q d.props)) c.args.preds.now c.loop-q.q c.loop-q-test.false c.loop-q.invariant
