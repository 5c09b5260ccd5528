use Rattle.tv_eval.specs.AssignmentForm.{assignment_of}
use Rattle.tv_update.proofs.Applies.{all_stay}
use Rattle.tv_update.proofs.prepare.stays_unasked.Goals as goal

pub returns-in-None : goal.returns-in-None
returns-in-None c =
    λ on middle. all_stay middle (assignment_of c.args.applied.now.picks.now) c.args.applied.now.action.now.retain c.in-None.is
