-- Each core predicate so far follows its update.
use Rattle.std.proofs.Common.{ℕ, ◌↔◌, Bool, IsTrue, map, subst}
use Rattle.tv_model.specs.Program.{PredForm, pred_of, update_of}
use Rattle.tv_concrete.specs.Steps.{CoreFollows}
use Rattle.tv_concrete.proofs.EachPreds.{preds-false, preds-true}
use Rattle.tv_concrete.proofs.step.updates_all.Goals as goal

pub returns-then-not-branch : goal.returns-then-not-branch
returns-then-not-branch c =
    let P : ℕ → PredForm → Type 0 = CoreFollows c.args.step.now (map update_of c.args.updates.now)
    in let Answer : Bool → Type 0 = λ b. IsTrue b ↔ P c.loop-q.q (pred_of c.index-preds-q.result)
    in preds-false P c.args.preds.now c.loop-q.q c.index-preds-q.result c.loop-q-test.true c.index-preds-q.is
    (subst Answer c.if-not-branch.true c.in_ok-updates_one.ensures)

pub returns : goal.returns
returns c =
    preds-true (CoreFollows c.args.step.now (map update_of c.args.updates.now)) c.args.preds.now c.loop-q.q
    c.loop-q-test.false c.loop-q.invariant
