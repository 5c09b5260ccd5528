use Rattle.std.proofs.Common.{List, sym, subst}
use Rattle.std.proofs.lemmas.Result.{err_from_is_err_and}
use Rattle.tv_model.specs.Program.{program_of}
use Rattle.tv_step.specs.EngineForm.{EngineForm}
use Rattle.tv_structure_form.specs.StructureForm.{StructureForm}
use Rattle.tv_explain.proofs.Causes.{steps_stopped}
use Rattle.tv_explain.specs.Meaning.{drawn_form}
use Rattle.tv_explain.specs.Work.{IsStepsStop}
use Rattle.tv_explain_words.specs.Words.{analyzed_of}
use Rattle.tv_explain.proofs.answers.step_answer.Goals as goal

pub returns-in_err-append_steps-clause-cause : goal.returns-in_err-append_steps-clause-cause
returns-in_err-append_steps-clause-cause c =
    let result = c.from_residual-in_err-append_steps in
    let p = err_from_is_err_and result.result result.ensures.1 in
    let inputs = c.args.inputs.now in
    let edge = c.args.edge in
    let fault = c.in_err-append_steps.field-0.0 in
    let cause = subst (λ (ss : List StructureForm). IsStepsStop (drawn_form inputs) edge ss fault)
    c.as_slice.ensures (subst (λ (e : EngineForm). IsStepsStop (program_of e.program) edge c.as_slice.result.now fault)
    c.in_ok-stager.ensures c.in_err-append_steps.ensures.cause) in
    rw (p.1, p.2) (steps_stopped (analyzed_of c.args.of.now) (analyzed_of c.args.of.now) edge inputs fault cause)
