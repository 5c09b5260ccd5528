use Rattle.std.proofs.Common.{[], ◌≡◌, take, All}
use Rattle.tv_step_laws.specs.Parts.{AreFrom}
use Rattle.tv_step.specs.Job.{action_in}
use Rattle.tv_step.specs.Setting.{form_in}
use Rattle.tv_step.specs.Steps.{Adds, KeepsUpdateLimits, StepsIn}
use Rattle.tv_step.proofs.step.given.Given as goal

abbrev pub invariant-loop-from : goal.invariant-loop-from
invariant-loop-from l = record {
  out : Adds (AreFrom (StepsIn (form_in l.x) l.x.mode (action_in l.job)))
      (take l.from-index l.at_hand) [] l.out;
  within : All (KeepsUpdateLimits (action_in l.job)) (take l.from-index l.at_hand);
  scratch : l.scratch ≡ l.fn.scratch;
}
