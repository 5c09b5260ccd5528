use Rattle.std.proofs.lemmas.Result.{IfErr-weaker, IfOk-weaker, err_from_is_err_and}
use Rattle.tv_lemmas.proofs.Options.{OnOk-any}
use Rattle.tv_explain.proofs.Questions.{answered, begun, few_begun, stopped, unread}
use Rattle.tv_explain_words.specs.Words.{analyzed_of}
use Rattle.tv_explain.proofs.work.ask.Goals as goal

pub returns-in_err-inputs-clause-cause : goal.returns-in_err-inputs-clause-cause
returns-in_err-inputs-clause-cause g c =
    let p = err_from_is_err_and c.from_residual.result c.from_residual.ensures.1 in
    rw (p.1, p.2) (unread _ (analyzed_of c.args.of.now) c.args.question.now _ _ _ c.in_err-inputs.ensures.cause)

pub returns-clause-cause : goal.returns-clause-cause
returns-clause-cause g c =
    IfErr-weaker c.answer.result _ _
    (λ f h. stopped _ (analyzed_of c.args.of.now) c.args.question.now c.in_ok-inputs.inputs _ _ f
    c.in_ok-inputs.ensures.means h)
    c.answer.ensures.cause

pub returns-clause-found : goal.returns-clause-found
returns-clause-found g c =
    IfOk-weaker c.answer.result _ _
    (λ t h. answered _ (analyzed_of c.args.of.now) c.args.question.now c.in_ok-inputs.inputs t
    c.in_ok-inputs.ensures.means h)
    c.answer.ensures.told

pub returns-clause-begins : goal.returns-clause-begins
returns-clause-begins g c = OnOk-any c.answer.result _
    (begun _ (analyzed_of c.args.of.now) c.args.question.now _ _ c.in_ok-inputs.ensures.begins)

pub returns-in_err-inputs-clause-most : goal.returns-in_err-inputs-clause-most
returns-in_err-inputs-clause-most g c =
    few_begun _ (analyzed_of c.args.of.now) c.args.question.now _ _ c.in_err-inputs.ensures.most

pub returns-clause-most : goal.returns-clause-most
returns-clause-most g c = few_begun _ (analyzed_of c.args.of.now) c.args.question.now _ _ c.in_ok-inputs.ensures.most
