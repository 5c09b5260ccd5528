-- The updates of each predicate so far agree.
use Rattle.std.proofs.Common.{ℕ, ◌↔◌, Bool, IsTrue, map, subst}
use Rattle.tv_model.specs.Program.{PredForm, pred_of, update_of}
use Rattle.tv_concrete.specs.Steps.{GivenAgrees}
use Rattle.tv_concrete.proofs.EachPreds.{preds-more, preds-false, preds-true}
use Rattle.tv_concrete.proofs.fair.agree_all.Goals as goal

pub returns-then-not-branch : goal.returns-then-not-branch
returns-then-not-branch c =
    let P : ℕ → PredForm → Type 0 = GivenAgrees c.args.step.now (map update_of c.args.updates.now)
    in let Answer : Bool → Type 0 = λ b. IsTrue b ↔ P c.loop-q.q (pred_of c.index-preds-q.result)
    in preds-false P c.args.preds.now c.loop-q.q c.index-preds-q.result c.loop-q-test.true c.index-preds-q.is
    (subst Answer c.if-not-branch.true c.in_ok-agrees_one.ensures)

pub loop-q-preserved : goal.loop-q-preserved
loop-q-preserved c =
    let P : ℕ → PredForm → Type 0 = GivenAgrees c.args.step.now (map update_of c.args.updates.now)
    in let Answer : Bool → Type 0 = λ b. IsTrue b ↔ P c.loop-q.q (pred_of c.index-preds-q.result)
    in preds-more P c.args.preds.now c.loop-q.q c.index-preds-q.result c.loop-q-test.true c.index-preds-q.is
    c.loop-q.invariant (subst Answer c.if-not-branch.false c.in_ok-agrees_one.ensures)

pub returns : goal.returns
returns c =
    preds-true (GivenAgrees c.args.step.now (map update_of c.args.updates.now)) c.args.preds.now c.loop-q.q
    c.loop-q-test.false c.loop-q.invariant
