use Rattle.tv_step.specs.EngineForm.{EngineForm}
use Rattle.tv_step.specs.Setting.{form_in}
use Rattle.tv_step.proofs.Engines.{job-in, ready-in, said-in, stable-in}
use Rattle.tv_step.proofs.Steppers.{action-in, mode-in, program-in}
use Rattle.tv_step.proofs.Stepping.{coerces-stable}
use Rattle.tv_step.proofs.Turns.{coerces-shaped}
use Rattle.tv_step.proofs.stepper.Stepper.stable_step.Goals as goal

pub step_from-requires : goal.step_from-requires
step_from-requires c =
    let x = c.setting-x.result
    in let own : EngineForm = c.self.inside.engine
    in let is = program-in x own c.args.self.now c.setting-x.ensures.program c.self.view_is
    in let s = c.args.s.now
    in let start = c.from_ref.result.now
    in let coerces = stable-in x c.args.self.now.program s start is c.requires.over
    c.size.ensures.kept c.requires.stable c.from_ref.ensures.value
    in record {
      ready = ready-in x own.program c.self.inside.scratch c.setting-x.ensures.program
          c.setting-x.ensures.valid c.setting-x.ensures.rules c.self.invariant.1;
      job = job-in x own.program own.mode c.job.result.now c.setting-x.ensures.program
          c.setting-x.ensures.mode c.job.ensures.job;
      shaped = coerces-shaped (form_in x) s start coerces;
      stable = coerces-stable (form_in x) s start coerces;
    }

pub returns-clause-step : goal.returns-clause-step
returns-clause-step c =
    let x = c.setting-x.result
    in let own : EngineForm = c.self.inside.engine
    in let is = program-in x own c.args.self.now c.setting-x.ensures.program c.self.view_is
    in let s = c.args.s.now
    in let start = c.from_ref.result.now
    in said-in x c.args.self.now.program c.args.self.now.mode c.args.edge s c.job.result.now start
    c.step_from.result is (mode-in x own c.args.self.now c.setting-x.ensures.mode c.self.view_is)
    c.setting-x.ensures.valid
    (action-in own c.args.self.now c.args.edge c.job.result.now c.self.view_is c.job.ensures.action)
    (stable-in x c.args.self.now.program s start is c.requires.over
    c.size.ensures.kept c.requires.stable c.from_ref.ensures.value)
    c.step_from.ensures.results c.step_from.ensures.values c.step_from.ensures.cause
