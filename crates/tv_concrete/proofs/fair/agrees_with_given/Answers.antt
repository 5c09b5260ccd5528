-- The lists are the program's predicates and the action's updates.
use Rattle.std.proofs.Common.{◌↔◌, List, IsTrue, IfOk, map, subst}
use Rattle.tv_model.specs.declared.program.Pred.{Pred}
use Rattle.tv_model.specs.declared.program.Update.{Update}
use Rattle.tv_model.specs.Program.{pred_of, update_of, EachPred}
use Rattle.tv_concrete.specs.Steps.{GivenAgrees}
use Rattle.tv_concrete.proofs.fair.agrees_with_given.Goals as goal

pub returns-in-Given : goal.returns-in-Given
returns-in-Given c =
    let Agree : List Pred → List Update → Type 0 = λ preds updates. IfOk c.agree_all.result
    (λ b. IsTrue b ↔ EachPred (map pred_of preds) (GivenAgrees c.args.step.now (map update_of updates)))
    in let Of : List Pred → Type 0 = λ preds. Agree preds c.as_slice.result.now
    in let With : List Update → Type 0 = λ updates. Agree c.args.acting.now.program.now.vocab.preds updates
    in rw c.in-Given.is (subst With c.as_slice.ensures (subst Of c.as_slice-preds.ensures c.agree_all.ensures))
