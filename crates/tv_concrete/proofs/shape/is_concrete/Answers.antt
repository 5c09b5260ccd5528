-- Each predicate so far is as defined.
use Rattle.std.proofs.Common.{ℕ, ◌↔◌, List, Bool, IsTrue, map, false, true, subst}
use Rattle.tv_model.specs.declared.program.Pred.{Pred}
use Rattle.tv_model.specs.Heap.{IsTuple}
use Rattle.tv_model.specs.Program.{PredForm, pred_of, EachPred}
use Rattle.tv_model.specs.Rules.{MeetsDefinition}
use Rattle.tv_concrete.specs.Lists.{heap_of}
use Rattle.tv_concrete.proofs.EachPreds.{preds-false, preds-true}
use Rattle.tv_concrete.proofs.shape.is_concrete.Goals as goal

pub returns-then-not-branch : goal.returns-then-not-branch
returns-then-not-branch c =
    let P : ℕ → PredForm → Type 0 = λ q d. (tuple : List ℕ) → IsTuple (heap_of c.args.heap.now) d.arity tuple
    → MeetsDefinition (heap_of c.args.heap.now) q d.kind tuple
    in let Answer : Bool → Type 0 = λ b. IsTrue b ↔ P c.loop-q.q (pred_of c.pred-item.result)
    in let Of : List Pred → Type 0 = λ preds. IsTrue false ↔ EachPred (map pred_of preds) P
    in subst Of c.as_slice-pred-items.ensures
    (preds-false P c.as_slice-pred-items.result.now c.loop-q.q c.pred-item.result c.loop-q-test.true c.pred-item.is
    (subst Answer c.if-not-branch.true c.in_ok-is_as_defined.ensures))

pub returns : goal.returns
returns c =
    let P : ℕ → PredForm → Type 0 = λ q d. (tuple : List ℕ) → IsTuple (heap_of c.args.heap.now) d.arity tuple
    → MeetsDefinition (heap_of c.args.heap.now) q d.kind tuple
    in let Of : List Pred → Type 0 = λ preds. IsTrue true ↔ EachPred (map pred_of preds) P
    in subst Of c.as_slice-pred-items.ensures
    (preds-true P c.as_slice-pred-items.result.now c.loop-q.q c.loop-q-test.false c.loop-q.invariant)
