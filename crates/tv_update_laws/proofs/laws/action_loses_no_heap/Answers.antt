use Rattle.tv_update_laws.proofs.Picks.{action_loses_no_heap}
use Rattle.tv_update_laws.proofs.laws.action_loses_no_heap.Goals as goal

pub returns : goal.returns
returns c = λ p valid mode action at old new s below concrete picked steps.
    action_loses_no_heap p valid mode action at old new s below concrete picked steps
