use Rattle.std.proofs.Common.{[], sym, subst, All}
use Rattle.std.proofs.lemmas.List.{take_all}
use Rattle.std.proofs.lemmas.List.Elements.{All-contains}
use Rattle.tv_lemmas.proofs.Options.{IfErr-same}
use Rattle.tv_step_laws.specs.Shaped.{IsShaped}
use Rattle.tv_step.specs.Job.{action_in}
use Rattle.tv_step.specs.Setting.{form_in, IsReadyToStep, IsStableIn}
use Rattle.tv_step.specs.Steps.{IsCauseOfUpdates, KeepsUpdateLimits, StepsIn}
use Rattle.tv_coerce_sets.proofs.Listing.{all-next}
use Rattle.tv_step.proofs.Adding.{adds-next, item-there}
use Rattle.tv_step.proofs.Picking.{updates-cause}
use Rattle.tv_step.proofs.step.given.Goals as goal

pub apply_action-requires : goal.apply_action-requires
apply_action-requires c = record {
  case = record {
    ready = subst (IsReadyToStep c.args.x.now) (sym c.loop-from.invariant.scratch) c.requires.ready;
    job = c.requires.job;
    shaped = All-contains
        (IsShaped (form_in c.args.x.now)) c.args.at_hand.now c.from-item.result c.requires.shaped
        (item-there c.args.at_hand.now c.loop-from.from-index c.from-item.result c.loop-from-test.true
        c.from-item.is);
    is = c.size.ensures.kept;
    stable = All-contains
        (IsStableIn (form_in c.args.x.now)) c.args.at_hand.now c.from-item.result c.requires.stable
        (item-there c.args.at_hand.now c.loop-from.from-index c.from-item.result c.loop-from-test.true
        c.from-item.is);
  };
}

pub loop-from-preserved : goal.loop-from-preserved
loop-from-preserved c = record {
  out = adds-next
      (StepsIn (form_in c.args.x.now) c.args.x.now.mode (action_in c.args.job.now)) c.args.at_hand.now
      c.loop-from.from-index c.from-item.result [] c.loop-from.out c.apply_action.new.out c.loop-from-test.true
      c.from-item.is
      c.loop-from.invariant.out c.in_ok-apply_action.ensures.out;
  within = all-next (KeepsUpdateLimits (action_in c.args.job.now)) c.args.at_hand.now c.loop-from.from-index
      c.from-item.result c.loop-from-test.true c.from-item.is c.loop-from.invariant.within
      c.in_ok-apply_action.ensures.within;
  scratch = cc;
}

pub returns-in_err-apply_action-clause-cause : goal.returns-in_err-apply_action-clause-cause
returns-in_err-apply_action-clause-cause c =
    IfErr-same (IsCauseOfUpdates (action_in c.args.job.now) c.args.at_hand.now) c.from_residual.result
    c.in_err-apply_action.field-0.0 c.from_residual.ensures.1
    (updates-cause
    (action_in c.args.job.now) c.args.at_hand.now c.from-item.result c.in_err-apply_action.field-0.0
    (item-there c.args.at_hand.now c.loop-from.from-index c.from-item.result c.loop-from-test.true
    c.from-item.is)
    c.in_err-apply_action.ensures.cause)

pub returns-clause-within : goal.returns-clause-within
returns-clause-within c =
    subst (All (KeepsUpdateLimits (action_in c.args.job.now)))
    (take_all c.loop-from.from-index c.args.at_hand.now c.loop-from-test.false) c.loop-from.invariant.within
