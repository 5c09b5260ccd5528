use Rattle.std.proofs.Common.{refl}
use Rattle.std.proofs.lemmas.Result.{err_from_is_err_and}
use Rattle.tv_model.specs.declared.program.Mode.TheVariants.{Given}
use Rattle.tv_top.proofs.Begins.{search_begun}
use Rattle.tv_top.proofs.Causes.{search_fault}
use Rattle.tv_top.proofs.Sources.{source_covered}
use Rattle.tv_top.specs.Work.{task_of}
use Rattle.tv_words.specs.Words.{Sources}
use Rattle.tv_top.proofs.work.source.Goals as goal

pub returns-in_err-inputs-clause-cause : goal.returns-in_err-inputs-clause-cause
returns-in_err-inputs-clause-cause g c =
    let p = err_from_is_err_and c.from_residual.result c.from_residual.ensures.1 in
    let command = Sources c.args.source.now c.args.initial.now c.args.max in
    rw (p.1, p.2) (c.in_err-inputs.ensures.cause command (refl, refl))

pub returns-in_err-found-clause-cause : goal.returns-in_err-found-clause-cause
returns-in_err-found-clause-cause g c =
    let p = err_from_is_err_and c.from_residual-in_err-found.result c.from_residual-in_err-found.ensures.1 in
    let command = Sources c.args.source.now c.args.initial.now c.args.max in
    rw (p.1, p.2) (search_fault _ command (task_of c.in_ok-inputs.inputs Given) c.args.max _ _ _
    (c.in_ok-inputs.ensures.meant command (refl, refl)) refl (λ most many. many) (λ Budget meets. meets) c.in_err-found.ensures.cause)

pub returns-clause-begins : goal.returns-clause-begins
returns-clause-begins g c = c.in_ok-inputs.ensures.begins

pub returns-clause-found : goal.returns-clause-found
returns-clause-found g c =
    let task = task_of c.in_ok-inputs.inputs Given in
    let means = c.in_ok-inputs.ensures.meant (Sources c.args.source.now c.args.initial.now c.args.max) (refl, refl) in (
      task,
      means,
      (
        c.in_ok-found.found,
        c.in_ok-found.ensures.found,
        source_covered c.covered_runs_cover_sources.ensures _ c.args.source.now task c.args.max c.in_ok-found.found means.program
            c.in_ok-found.ensures.found,
        c.in_ok-text.ensures.text,
      ),
    )

pub returns-in_err-inputs-clause-begun : goal.returns-in_err-inputs-clause-begun
returns-in_err-inputs-clause-begun g c =
    let p = err_from_is_err_and c.from_residual.result c.from_residual.ensures.1 in
    let command = Sources c.args.source.now c.args.initial.now c.args.max in
    rw (p.1, p.2) (c.in_err-inputs.ensures.begun command (refl, refl))

pub returns-in_err-found-clause-begun : goal.returns-in_err-found-clause-begun
returns-in_err-found-clause-begun g c =
    let p = err_from_is_err_and c.from_residual-in_err-found.result c.from_residual-in_err-found.ensures.1 in
    let command = Sources c.args.source.now c.args.initial.now c.args.max in
    rw (p.1, p.2) (search_begun _ command _ _ c.in_ok-inputs.ensures.begins (task_of c.in_ok-inputs.inputs Given) c.args.max _
    c.in_err-found.ensures.cause)
