use Rattle.std.proofs.Common.{◌≡◌, length, arith, ap, subst, Some, slice_get}
use Rattle.tv_model.specs.Program.{program_of}
use Rattle.tv_step_laws.specs.Transfer.{IsActionOf}
use Rattle.tv_step.specs.EngineForm.{EngineForm}
use Rattle.tv_step.specs.Job.{action_in, IsJob}
use Rattle.tv_step.proofs.Jobs.{job-taken, taken-within}
use Rattle.tv_step.proofs.engine.Engine.job.Goals as goal

pub job_at-requires : goal.job_at-requires
job_at-requires c =
    omega (
      arith,
      ap length c.as_slice.ensures.value,
      c.self.invariant.2.count,
      taken-within c.self.inside.program.now c.self.invariant.0 c.args.edge c.edge_at-taken.result
          c.edge_at-taken.ensures,
    )

pub returns-clause-job : goal.returns-clause-job
returns-clause-job c =
    subst (λ (e : EngineForm). IsJob e.program e.mode c.job_at.result.now) c.self.view_is
    (c.self.invariant.2.each c.edge_at-taken.result.action c.job_at.result.now
    (subst (λ jobs. slice_get jobs c.edge_at-taken.result.action ≡ Some c.job_at.result.now)
    c.as_slice.ensures.value c.job_at.ensures.job)).1

pub returns-clause-action : goal.returns-clause-action
returns-clause-action c =
    subst (λ (e : EngineForm). IsActionOf (program_of e.program) c.args.edge (action_in c.job_at.result.now))
    c.self.view_is
    (job-taken c.self.inside.program.now c.self.inside.mode c.self.inside.jobs.items c.args.edge
    c.edge_at-taken.result c.job_at.result.now c.self.invariant.2 c.edge_at-taken.ensures
    (subst (λ jobs. slice_get jobs c.edge_at-taken.result.action ≡ Some c.job_at.result.now)
    c.as_slice.ensures.value c.job_at.ensures.job) c.job_at.ensures.fits)
