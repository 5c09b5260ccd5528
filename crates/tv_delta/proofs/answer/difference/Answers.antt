use Rattle.std.proofs.Common.{refl}
use Rattle.std.proofs.lemmas.Result.{IfOk-weaker}
use Rattle.tv_model.specs.Program.{program_of, action_of, pred_of}
use Rattle.tv_delta.proofs.Answered.{differs, place, in_vocabulary, keeps_where, tells_truth}
use Rattle.tv_delta.proofs.Causes.{evaluates_where}
use Rattle.tv_delta.proofs.answer.difference.Goals as goal

pub returns-clause-exact : goal.returns-clause-exact
returns-clause-exact c =
    let p = program_of c.args.program.now
    in let preds = c.args.program.now.vocab.preds
    in let q = c.args.pred.0
    in let below = in_vocabulary p pred_of preds q refl c.requires.defined
    in let at = place action_of c.args.program.now.actions c.args.action c.index-as_slice-action.result c.requires.action
    (rw c.as_slice.ensures at c.index-as_slice-action.is)
    in let found = place pred_of preds q c.index-as_slice-pred.result below
    (rw c.as_slice-3.ensures at c.index-as_slice-pred.is)
    in IfOk-weaker c.answer_at.result _ _
    (λ x says. differs p c.args.action q (action_of c.index-as_slice-action.result) c.in_ok-affected.affected.items
    c.deref.result.now (pred_of c.index-as_slice-pred.result) x at found c.requires.defined c.deref.ensures.value
    c.in_ok-affected.ensures says)
    c.answer_at.ensures.says

pub returns-clause-keep : goal.returns-clause-keep
returns-clause-keep c =
    IfOk-weaker c.answer_at.result _ _
    (λ x is. keeps_where (program_of c.args.program.now) c.args.action c.args.pred.0 x is) (returns-clause-exact c)

pub returns-clause-evaluate : goal.returns-clause-evaluate
returns-clause-evaluate c =
    IfOk-weaker c.answer_at.result _ _
    (λ x is. evaluates_where (program_of c.args.program.now) c.args.action c.args.pred.0 x is)
    (returns-clause-exact c)

pub returns-clause-truth : goal.returns-clause-truth
returns-clause-truth c =
    IfOk-weaker c.answer_at.result _ _
    (λ x is. tells_truth c.updates_tell_the_truth.ensures c.kept_predicates_stay.ensures (program_of c.args.program.now)
    c.args.action c.args.pred.0 x c.requires.valid is)
    (returns-clause-exact c)
