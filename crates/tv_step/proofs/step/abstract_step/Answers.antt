use Rattle.std.proofs.Common.{◌∙◌, ◌≤◌, refl, sym, subst}
use Rattle.std.proofs.lemmas.List.{length-map}
use Rattle.tv_model.specs.Program.{pred_of, program_of}
use Rattle.tv_coerce.specs.Ready.{CanCoerce}
use Rattle.tv_coerce.proofs.Ready.{closed_rules_can_be_tried}
use Rattle.tv_step.specs.declared.setting.Setting.{Setting}
use Rattle.tv_step_laws.proofs.Shapes.{over-shaped}
use Rattle.tv_step.proofs.Engines.{found-coerces, said-in}
use Rattle.tv_step.proofs.Jobs.{job-taken-by, taken-within}
use Rattle.tv_step.proofs.Stepping.{coerces-stable}
use Rattle.tv_step.proofs.Turns.{coerces-shaped}
use Rattle.tv_step.proofs.step.abstract_step.Goals as goal

pub coerce-requires : goal.coerce-requires
coerce-requires c =
    subst (λ rules. CanCoerce rules c.args.s.now c.args.scratch.now) (sym c.requires.closed)
    (closed_rules_can_be_tried c.args.program.now c.args.s.now c.args.scratch.now c.requires.valid
    c.requires.over c.size.ensures.kept c.requires.scratch)

pub shared_sets-requires : goal.shared_sets-requires
shared_sets-requires c =
    subst (λ n. n ≤ 512) (length-map c.args.program.now.vocab.preds pred_of) c.requires.valid.pred_count

pub job_of-requires-clause-number : goal.job_of-requires-clause-number
job_of-requires-clause-number c =
    taken-within c.args.program.now c.requires.valid c.args.edge c.edge_at.result c.edge_at.ensures

pub step_from-requires : goal.step_from-requires
step_from-requires c =
    let x : Setting = record { alloc = c.args.alloc; program = c.args.program; mode = c.args.mode; closed = c.args.closed }
    in let s = c.args.s.now
    in let start = c.as_slice.result.now
    in let coerces = found-coerces x s c.in_ok-start.start start c.requires.closed
    (over-shaped c.args.program.now s c.requires.over c.size.ensures.kept)
    c.in_ok-start.ensures.exact c.as_slice.ensures
    in record {
      ready = record {
        valid = c.requires.valid;
        rules = c.requires.closed;
        room = rw c.in_ok-start.ensures.scratch c.requires.scratch;
      };
      job = c.in_ok-job.ensures.job;
      shaped = coerces-shaped (program_of c.args.program.now) s start coerces;
      stable = coerces-stable (program_of c.args.program.now) s start coerces;
    }

pub returns : goal.returns
returns c =
    let x : Setting = record { alloc = c.args.alloc; program = c.args.program; mode = c.args.mode; closed = c.args.closed }
    in let s = c.args.s.now
    in let start = c.as_slice.result.now
    in record {
      step = said-in x c.args.program.now c.args.mode c.args.edge s c.in_ok-job.job start
          c.step_from.result refl refl c.requires.valid
          (job-taken-by c.args.program.now c.args.mode c.args.edge c.edge_at.result c.in_ok-job.job
          c.in_ok-job.ensures.job c.edge_at.ensures c.in_ok-job.ensures.number)
          (found-coerces x s c.in_ok-start.start start c.requires.closed
          (over-shaped c.args.program.now s c.requires.over c.size.ensures.kept)
          c.in_ok-start.ensures.exact c.as_slice.ensures)
          c.step_from.ensures.results c.step_from.ensures.values c.step_from.ensures.cause;
      scratch = c.step_from.ensures.scratch ∙ c.in_ok-start.ensures.scratch;
    }
