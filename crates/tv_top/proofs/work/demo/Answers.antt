use Rattle.std.proofs.Common.{refl}
use Rattle.std.proofs.lemmas.Result.{err_from_is_err_and}
use Rattle.tv_model.specs.declared.program.Mode.TheVariants.{Given}
use Rattle.tv_top.proofs.Causes.{search_fault}
use Rattle.tv_top.specs.Answers.{demo_max}
use Rattle.tv_top.specs.Work.{task_of}
use Rattle.tv_words.specs.Words.{Demos}
use Rattle.tv_top.proofs.work.demo.Goals as goal

pub returns-in_err-inputs-clause-cause : goal.returns-in_err-inputs-clause-cause
returns-in_err-inputs-clause-cause c =
    let p = err_from_is_err_and c.from_residual.result c.from_residual.ensures.1 in
    rw (p.1, p.2) (λ told. c.in_err-inputs.ensures.cause told)

pub returns-in_err-found-clause-cause : goal.returns-in_err-found-clause-cause
returns-in_err-found-clause-cause c =
    let p = err_from_is_err_and c.from_residual-in_err-found.result c.from_residual-in_err-found.ensures.1 in
    rw (p.1, p.2) (λ told. search_fault told (Demos c.args.number) (task_of c.in_ok-inputs.inputs Given) demo_max ⊥ ⊥ _
    (c.in_ok-inputs.ensures.meant told) refl (λ most many. many) (λ Budget meets. meets) c.in_err-found.ensures.cause)

pub returns-clause-found : goal.returns-clause-found
returns-clause-found c = λ told. (
  task_of c.in_ok-inputs.inputs Given,
  c.in_ok-inputs.ensures.meant told,
  (c.in_ok-found.found, c.in_ok-found.ensures.found, c.in_ok-text.ensures),
)
