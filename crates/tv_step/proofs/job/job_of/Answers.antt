use Rattle.std.proofs.Common.{◌∙◌, ◌≤◌, map, ap, subst, sym}
use Rattle.std.proofs.lemmas.List.{length-map}
use Rattle.tv_model.specs.Form.{form_of}
use Rattle.tv_model.specs.Program.{action_of, pred_of}
use Rattle.tv_step_laws.specs.Transfer.{focus_places}
use Rattle.tv_update.specs.Plan.{IsPlanFor}
use Rattle.tv_rules.specs.Closing.{closed_rules}
use Rattle.tv_step.specs.Redefined.{AreDefining}
use Rattle.tv_step.specs.Setting.{form_in}
use Rattle.tv_step.specs.Waiting.{WaitsFor}
use Rattle.tv_step.proofs.Picking.{same-action}
use Rattle.tv_step.proofs.job.job_of.Goals as goal

pub turns-requires-clause-few : goal.turns-requires-clause-few
turns-requires-clause-few c =
    subst (λ n. n ≤ 512) (length-map c.args.x.now.program.now.vocab.preds pred_of) c.requires.valid.pred_count

pub returns-clause-job : goal.returns-clause-job
returns-clause-job c =
    let x = c.args.x.now
    in let p = form_in x
    in let action = action_of c.action_at-action.result.now
    in record {
      action = c.action_at-action.ensures;
      places = c.in_ok-turns.ensures.places ∙ ap (λ fs. focus_places (map form_of fs)) c.as_slice.ensures;
      waiting = c.in_ok-turns.ensures.waiting;
      waits = subst (λ rules. WaitsFor p action rules c.in_ok-waiting.waiting.value) c.requires.rules
          c.in_ok-waiting.ensures.waits;
      plan = subst (λ act. IsPlanFor p x.mode act c.in_ok-plan.plan)
          (same-action x.program.now c.args.number action c.action_at-action.ensures) c.in_ok-plan.ensures;
      defining = subst (AreDefining p (closed_rules p)) (sym c.in_ok-defining.ensures.cases)
          (subst (λ rules. AreDefining p rules c.waiting_after.new.shared.defining.value) c.requires.rules
          c.in_ok-waiting.ensures.shared.defining);
    }
