-- The members so far.
use Rattle.std.proofs.Common.{◌≡◌}
use Rattle.std.proofs.Common.{◌≢◌}
use Rattle.tv_kleene.specs.declared.K3.TheVariants.{No}
use Rattle.tv_eval.specs.AssignmentForm.{assignment_of}
use Rattle.tv_coerce_members.specs.Members.{members_of}
use Rattle.tv_coerce.proofs.Counts.{TellsBy}
use Rattle.tv_coerce.proofs.counting.count.Given as goal

abbrev pub invariant-loop-step : goal.invariant-loop-step
invariant-loop-step l =
    (l.evaluator ≡ l.fn.evaluator)
    × (l.found ≢ No)
    × TellsBy l.trial.structure.now (assignment_of l.a) (members_of l.trial.shape.now.members) l.steps l.step-index l.found
