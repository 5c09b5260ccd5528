use Rattle.std.proofs.Common.{ℕ, ◌≡◌, ◌^◌, ◌-◌, length, min, Some, slice_get}
use Rattle.tv_step.specs.declared.job.Job.{Job}
use Rattle.tv_rules.specs.EntryForms.{rules_of}
use Rattle.tv_step.specs.Job.{IsJob}
use Rattle.tv_step.specs.Setting.{form_in}
use Rattle.tv_step.specs.Waiting.{IsShared}
use Rattle.tv_step.proofs.job.jobs.Given as goal

abbrev pub invariant-loop-number : goal.invariant-loop-number
invariant-loop-number l = record {
  count : length l.jobs.items ≡ l.number;
  each : (n : ℕ) (job : Job) → slice_get l.jobs.items n ≡ Some job
      → (job.number ≡ min n (2 ^ 32 - 1)) × IsJob l.x.program.now l.x.mode job;
  shared : IsShared (form_in l.x) (rules_of l.x.closed.now) l.shared;
}
