use Rattle.std.proofs.Common.{refl}
use Rattle.std.proofs.lemmas.Result.{err_from_is_err_and}
use Rattle.tv_top.proofs.Begins.{search_begun}
use Rattle.tv_top.proofs.Causes.{search_fault}
use Rattle.tv_top.proofs.Differenced.{covers_read_runs}
use Rattle.tv_top.specs.Work.{task_of}
use Rattle.tv_words.specs.Words.{Analyzes}
use Rattle.tv_top.proofs.work.analyze.Goals as goal

pub returns-in_err-inputs-clause-cause : goal.returns-in_err-inputs-clause-cause
returns-in_err-inputs-clause-cause g c =
    let p = err_from_is_err_and c.from_residual.result c.from_residual.ensures.1 in
    let command = Analyzes c.args.program.now c.args.initial.now c.args.max c.args.mode c.args.delta in
    rw (p.1, p.2) (c.in_err-inputs.ensures.cause command (refl, refl, refl))

pub returns-in_err-found-clause-cause : goal.returns-in_err-found-clause-cause
returns-in_err-found-clause-cause g c =
    let p = err_from_is_err_and c.from_residual-in_err-found.result c.from_residual-in_err-found.ensures.1 in
    let command = Analyzes c.args.program.now c.args.initial.now c.args.max c.args.mode c.args.delta in
    rw (p.1, p.2) (search_fault _ command (task_of c.in_ok-inputs.inputs c.args.mode) c.args.max _ _ _
    (c.in_ok-inputs.ensures.meant command (refl, refl, refl)) refl (λ most many. many) (λ Budget meets. meets) c.in_err-found.ensures.cause)

pub returns-clause-begins : goal.returns-clause-begins
returns-clause-begins g c = c.in_ok-inputs.ensures.begins

pub returns-clause-found : goal.returns-clause-found
returns-clause-found g c = (
  task_of c.in_ok-inputs.inputs c.args.mode,
  c.in_ok-inputs.ensures.meant (Analyzes c.args.program.now c.args.initial.now c.args.max c.args.mode c.args.delta) (refl, refl, refl),
  (
    c.in_ok-found.found,
    c.in_ok-found.ensures.found,
    c.in_ok-text.ensures.text,
    covers_read_runs _ _ c.args.delta c.in_ok-inputs.inputs.program c.args.mode c.in_ok-inputs.inputs.initial
        c.in_ok-found.found c.requires.together c.in_ok-inputs.ensures.runs c.in_ok-found.ensures.found.sound,
  ),
)

pub returns-in_err-inputs-clause-begun : goal.returns-in_err-inputs-clause-begun
returns-in_err-inputs-clause-begun g c =
    let p = err_from_is_err_and c.from_residual.result c.from_residual.ensures.1 in
    let command = Analyzes c.args.program.now c.args.initial.now c.args.max c.args.mode c.args.delta in
    rw (p.1, p.2) (c.in_err-inputs.ensures.begun command (refl, refl, refl))

pub returns-in_err-found-clause-begun : goal.returns-in_err-found-clause-begun
returns-in_err-found-clause-begun g c =
    let p = err_from_is_err_and c.from_residual-in_err-found.result c.from_residual-in_err-found.ensures.1 in
    let command = Analyzes c.args.program.now c.args.initial.now c.args.max c.args.mode c.args.delta in
    rw (p.1, p.2) (search_begun _ command _ _ c.in_ok-inputs.ensures.begins (task_of c.in_ok-inputs.inputs c.args.mode) c.args.max _
    c.in_err-found.ensures.cause)
