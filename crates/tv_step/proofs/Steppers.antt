-- What a stepper's setting is, in terms of what the stepper was made for.
use Rattle.std.proofs.Common.{ℕ, ◌≡◌, ◌∙◌, ap, subst}
use Rattle.tv_model.specs.Program.{program_of}
use Rattle.tv_step_laws.specs.Transfer.{IsActionOf}
use Rattle.tv_step.specs.declared.job.Job.{Job}
use Rattle.tv_step.specs.declared.setting.Setting.{Setting}
use Rattle.tv_step.specs.EngineForm.{EngineForm}
use Rattle.tv_step.specs.Job.{action_in}

pub program-in : (x : Setting) (own made : EngineForm) → x.program.now ≡ own.program → own ≡ made
    → x.program.now ≡ made.program
program-in x own made is same = is ∙ ap (λ (e : EngineForm). e.program) same

pub mode-in : (x : Setting) (own made : EngineForm) → x.mode ≡ own.mode → own ≡ made → x.mode ≡ made.mode
mode-in x own made is same = is ∙ ap (λ (e : EngineForm). e.mode) same

pub action-in : (own made : EngineForm) (edge : ℕ) (job : Job) → own ≡ made
    → IsActionOf (program_of own.program) edge (action_in job)
    → IsActionOf (program_of made.program) edge (action_in job)
action-in own made edge job same =
    subst (λ (e : EngineForm). IsActionOf (program_of e.program) edge (action_in job)) same
