use Rattle.std.proofs.Common.{refl}
use Rattle.std.proofs.lemmas.Result.{err_from_is_err_and}
use Rattle.tv_top.proofs.Begins.{join_search_begun}
use Rattle.tv_top.proofs.Causes.{join_search_fault}
use Rattle.tv_top.specs.Work.{task_of}
use Rattle.tv_words.specs.Words.{Joins}
use Rattle.tv_top.proofs.work.join.Goals as goal

pub returns-in_err-inputs-clause-cause : goal.returns-in_err-inputs-clause-cause
returns-in_err-inputs-clause-cause g c =
    let p = err_from_is_err_and c.from_residual.result c.from_residual.ensures.1 in
    let command = Joins c.args.program.now c.args.initial.now c.args.max c.args.mode in
    rw (p.1, p.2) (c.in_err-inputs.ensures.cause command (refl, refl, refl))

pub returns-in_err-found-clause-cause : goal.returns-in_err-found-clause-cause
returns-in_err-found-clause-cause g c =
    let p = err_from_is_err_and c.from_residual-in_err-found.result c.from_residual-in_err-found.ensures.1 in
    let command = Joins c.args.program.now c.args.initial.now c.args.max c.args.mode in
    rw (p.1, p.2) (join_search_fault _ c.args.program.now c.args.initial.now c.args.mode
    (task_of c.in_ok-inputs.inputs c.args.mode) c.args.max _ _ _
    (c.in_ok-inputs.ensures.meant command (refl, refl, refl)) c.in_err-found.ensures.cause)

pub returns-clause-begins : goal.returns-clause-begins
returns-clause-begins g c = c.in_ok-inputs.ensures.begins

pub returns-clause-found : goal.returns-clause-found
returns-clause-found g c = (
  task_of c.in_ok-inputs.inputs c.args.mode,
  c.in_ok-inputs.ensures.meant (Joins c.args.program.now c.args.initial.now c.args.max c.args.mode) (refl, refl, refl),
  (c.in_ok-found.found, c.in_ok-found.ensures.found, c.in_ok-text.ensures.text),
)

pub returns-in_err-inputs-clause-begun : goal.returns-in_err-inputs-clause-begun
returns-in_err-inputs-clause-begun g c =
    let p = err_from_is_err_and c.from_residual.result c.from_residual.ensures.1 in
    let command = Joins c.args.program.now c.args.initial.now c.args.max c.args.mode in
    rw (p.1, p.2) (c.in_err-inputs.ensures.begun command (refl, refl, refl))

pub returns-in_err-found-clause-begun : goal.returns-in_err-found-clause-begun
returns-in_err-found-clause-begun g c =
    let p = err_from_is_err_and c.from_residual-in_err-found.result c.from_residual-in_err-found.ensures.1 in
    let command = Joins c.args.program.now c.args.initial.now c.args.max c.args.mode in
    rw (p.1, p.2) (join_search_begun _ command _ _ c.in_ok-inputs.ensures.begins (task_of c.in_ok-inputs.inputs c.args.mode) c.args.max _
    c.in_err-found.ensures.cause)
