use Rattle.tv_step.specs.EngineForm.{EngineForm}
use Rattle.tv_step.specs.Setting.{form_in}
use Rattle.tv_step.proofs.Coercing.{can-coerce}
use Rattle.tv_step.proofs.Engines.{found-coerces, job-in, ready-in, said-in, shaped-in}
use Rattle.tv_step.proofs.Steppers.{action-in, mode-in, program-in}
use Rattle.tv_step.proofs.Stepping.{coerces-stable}
use Rattle.tv_step.proofs.Turns.{coerces-shaped}
use Rattle.tv_step.proofs.stepper.Stepper.step.Goals as goal

pub coerce-requires : goal.coerce-requires
coerce-requires c =
    let x = c.setting-x.result
    in let own : EngineForm = c.self.inside.engine
    in let is = program-in x own c.args.self.now c.setting-x.ensures.program c.self.view_is
    in can-coerce x c.args.s.now c.self.inside.scratch
    (ready-in x own.program c.self.inside.scratch c.setting-x.ensures.program c.setting-x.ensures.valid
    c.setting-x.ensures.rules c.self.invariant.1)
    (shaped-in x c.args.self.now.program c.args.s.now is c.requires.over
    c.size.ensures.kept) c.size.ensures.kept

pub step_from-requires : goal.step_from-requires
step_from-requires c =
    let x = c.setting-x.result
    in let own : EngineForm = c.self.inside.engine
    in let is = program-in x own c.args.self.now c.setting-x.ensures.program c.self.view_is
    in let s = c.args.s.now
    in let start = c.as_slice.result.now
    in let coerces = found-coerces x s c.in_ok-start.start start c.setting-x.ensures.rules
    (shaped-in x c.args.self.now.program s is c.requires.over c.size.ensures.kept)
    c.in_ok-start.ensures.exact c.as_slice.ensures
    in record {
      ready = ready-in x own.program _ c.setting-x.ensures.program c.setting-x.ensures.valid
          c.setting-x.ensures.rules (rw c.in_ok-start.ensures.scratch c.self.invariant.1);
      job = job-in x own.program own.mode c.job.result.now c.setting-x.ensures.program
          c.setting-x.ensures.mode c.job.ensures.job;
      shaped = coerces-shaped (form_in x) s start coerces;
      stable = coerces-stable (form_in x) s start coerces;
    }

pub returns-clause-step : goal.returns-clause-step
returns-clause-step c =
    let x = c.setting-x.result
    in let own : EngineForm = c.self.inside.engine
    in let is = program-in x own c.args.self.now c.setting-x.ensures.program c.self.view_is
    in let s = c.args.s.now
    in let start = c.as_slice.result.now
    in said-in x c.args.self.now.program c.args.self.now.mode c.args.edge s c.job.result.now start
    c.step_from.result is (mode-in x own c.args.self.now c.setting-x.ensures.mode c.self.view_is)
    c.setting-x.ensures.valid
    (action-in own c.args.self.now c.args.edge c.job.result.now c.self.view_is c.job.ensures.action)
    (found-coerces x s c.in_ok-start.start start c.setting-x.ensures.rules
    (shaped-in x c.args.self.now.program s is c.requires.over c.size.ensures.kept)
    c.in_ok-start.ensures.exact c.as_slice.ensures)
    c.step_from.ensures.results c.step_from.ensures.values c.step_from.ensures.cause
