use Rattle.std.proofs.Common.{◌≡◌, Result, Ok, Err, sym, subst}
use Rattle.std.proofs.lemmas.Result.{err_from_is_err_and}
use Rattle.std.specs.Prelude.{IfOk, IsErrAnd}
use Rattle.tv_lemmas.proofs.Options.{IfErr-same}
use Rattle.tv_step_laws.specs.Transfer.{focus_places}
use Rattle.tv_step.specs.EngineForm.{EngineForm}
use Rattle.tv_step.specs.Job.{action_in}
use Rattle.tv_step.specs.Setting.{form_in}
use Rattle.tv_step.specs.Steps.{AreFocusedWithin, IsCauseOfFocus}
use Rattle.tv_step.proofs.Coercing.{can-coerce}
use Rattle.tv_step.proofs.Engines.{found-coerces, found-in, job-in, ready-in, shaped-in}
use Rattle.tv_step.proofs.Steppers.{action-in, program-in}
use Rattle.tv_step.proofs.Stepping.{coerces-stable}
use Rattle.tv_step.proofs.Turns.{coerces-shaped}
use Rattle.tv_step.proofs.stepper.Stepper.at_hand.Goals as goal

not-ok : {T E : Type 0} (P : T → Type 0) (Q : E → Type 0) (r : Result T E) → IsErrAnd r Q → IfOk r P
not-ok P Q (Ok t) failed = absurd failed
not-ok P Q (Err e) failed = tt

pub coerce-requires : goal.coerce-requires
coerce-requires c =
    let x = c.setting-x.result
    in let own : EngineForm = c.self.inside.engine
    in let is = program-in x own c.args.self.now c.setting-x.ensures.program c.self.view_is
    in can-coerce x c.args.s.now c.self.inside.scratch
    (ready-in x own.program c.self.inside.scratch c.setting-x.ensures.program c.setting-x.ensures.valid
    c.setting-x.ensures.rules c.self.invariant.1)
    (shaped-in x c.args.self.now.program c.args.s.now is c.requires.over
    c.size.ensures.kept) c.size.ensures.kept

pub focused-requires : goal.focused-requires
focused-requires c =
    let x = c.setting-x.result
    in let own : EngineForm = c.self.inside.engine
    in let is = program-in x own c.args.self.now c.setting-x.ensures.program c.self.view_is
    in let s = c.args.s.now
    in let start = c.as_slice-start.result.now
    in let coerces = found-coerces x s c.in_ok-coerced.coerced start c.setting-x.ensures.rules
    (shaped-in x c.args.self.now.program s is c.requires.over c.size.ensures.kept)
    c.in_ok-coerced.ensures.exact c.as_slice-start.ensures
    in record {
      ready = ready-in x own.program _ c.setting-x.ensures.program c.setting-x.ensures.valid
          c.setting-x.ensures.rules (rw c.in_ok-coerced.ensures.scratch c.self.invariant.1);
      job = job-in x own.program own.mode c.job.result.now c.setting-x.ensures.program
          c.setting-x.ensures.mode c.job.ensures.job;
      shaped = coerces-shaped (form_in x) s start coerces;
      stable = coerces-stable (form_in x) s start coerces;
    }

pub returns-clause-at_hand : goal.returns-clause-at_hand
returns-clause-at_hand c =
    let x = c.setting-x.result
    in let own : EngineForm = c.self.inside.engine
    in let is = program-in x own c.args.self.now c.setting-x.ensures.program c.self.view_is
    in let p = form_in x
    in let s = c.args.s.now
    in let action = action_in c.job.result.now
    in let start = c.as_slice-start.result.now
    in let coerces = found-coerces x s c.in_ok-coerced.coerced start c.setting-x.ensures.rules
    (shaped-in x c.args.self.now.program s is c.requires.over c.size.ensures.kept)
    c.in_ok-coerced.ensures.exact c.as_slice-start.ensures
    in found-in x c.args.self.now.program c.args.edge s c.job.result.now start (Ok c.in_ok-own_at_hand.field-0)
    is (action-in own c.args.self.now c.args.edge c.job.result.now c.self.view_is c.job.ensures.action) coerces
    (subst (AreFocusedWithin p (focus_places action.focus) start)
    (sym c.in_ok-own_at_hand.ensures)
    c.in_ok-found.ensures.out) tt

pub returns-in_err-found-clause-at_hand : goal.returns-in_err-found-clause-at_hand
returns-in_err-found-clause-at_hand c =
    let x = c.setting-x.result
    in let own : EngineForm = c.self.inside.engine
    in let is = program-in x own c.args.self.now c.setting-x.ensures.program c.self.view_is
    in let p = form_in x
    in let s = c.args.s.now
    in let places = focus_places (action_in c.job.result.now).focus
    in let start = c.as_slice-start.result.now
    in let answer = c.from_residual-in_err-found.result
    in let coerces = found-coerces x s c.in_ok-coerced.coerced start c.setting-x.ensures.rules
    (shaped-in x c.args.self.now.program s is c.requires.over c.size.ensures.kept)
    c.in_ok-coerced.ensures.exact c.as_slice-start.ensures
    in found-in x c.args.self.now.program c.args.edge s c.job.result.now start answer is
    (action-in own c.args.self.now c.args.edge c.job.result.now c.self.view_is c.job.ensures.action) coerces
    (not-ok (AreFocusedWithin p places start) _ answer c.from_residual-in_err-found.ensures.1)
    (IfErr-same (IsCauseOfFocus p places start) answer c.in_err-found.field-0.0 c.from_residual-in_err-found.ensures.1
    c.in_err-found.ensures.cause)

pub returns-in_err-own_at_hand-clause-at_hand : goal.returns-in_err-own_at_hand-clause-at_hand
returns-in_err-own_at_hand-clause-at_hand c =
    let same = err_from_is_err_and c.from_residual-in_err-own_at_hand.result c.from_residual-in_err-own_at_hand.ensures.1
    in rw (same.1, same.2) (record { are = λ _ _. tt; shaped = tt; cause = λ _ _. tt })
