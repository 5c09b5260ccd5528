use Rattle.std.proofs.Common.{◌∙◌, ◌+◌, ◌≤◌, ◌∷◌, [], length, ap, subst}
use Rattle.std.proofs.lemmas.List.{length-append, length-map}
use Rattle.tv_model.specs.Program.{pred_of}
use Rattle.tv_step.proofs.Jobs.{jobs-next}
use Rattle.tv_step.proofs.job.jobs.Goals as goal

pub shared_sets-requires : goal.shared_sets-requires
shared_sets-requires c =
    subst (λ n. n ≤ 512) (length-map c.args.x.now.program.now.vocab.preds pred_of) c.requires.valid.pred_count

pub loop-number-preserved : goal.loop-number-preserved
loop-number-preserved c = record {
  count = ap length c.in_ok-push.ensures.items
      ∙ length-append c.loop-number.jobs.items (c.in_ok-job_of.field-0 ∷ [])
      ∙ ap (λ n. n + 1) c.loop-number.invariant.count;
  each = rw c.in_ok-push.ensures.items
      (jobs-next c.args.x.now.program.now c.args.x.now.mode c.loop-number.jobs.items c.in_ok-job_of.field-0
      c.loop-number.number c.loop-number.invariant.count c.loop-number.invariant.each
      (c.in_ok-job_of.ensures.number ∙ c.min.ensures) c.in_ok-job_of.ensures.job);
  shared = c.in_ok-job_of.ensures.shared;
}
