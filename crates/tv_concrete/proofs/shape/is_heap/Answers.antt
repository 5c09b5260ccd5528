-- Where the tuples don't fit, the lists are no heap.
use Rattle.std.proofs.Common.{List, All, ◌↔◌, IsTrue, false, subst, map}
use Rattle.std.proofs.lemmas.Bool.{false≢true}
use Rattle.tv_model.specs.declared.program.Pred.{Pred}
use Rattle.tv_model.specs.Heap.{IsTuple, extent}
use Rattle.tv_model.specs.Program.{pred_of, EachPred}
use Rattle.tv_concrete.specs.Lists.{heap_of}
use Rattle.tv_concrete.proofs.shape.is_heap.Goals as goal

pub returns-then-not-tuples_fit : goal.returns-then-not-tuples_fit
returns-then-not-tuples_fit c =
    let Answers : List Pred → Type 0 = λ preds. IsTrue false
    ↔ EachPred (map pred_of preds) (λ q d. All (IsTuple (heap_of c.args.heap.now) d.arity)
    (extent (heap_of c.args.heap.now) q))
    in (
      λ f. absurd (false≢true f),
      λ h.
          (subst Answers c.as_slice-2.ensures c.if-not-tuples_fit.ensures).1 h.tuples_fit,
    )
