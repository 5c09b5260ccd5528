use Rattle.tv_update_laws.proofs.Preconditions.{precondition_passes}
use Rattle.tv_update_laws.proofs.laws.precondition_passes.Goals as goal

pub returns : goal.returns
returns c = λ p valid mode action at s picks new from. precondition_passes p valid mode action at s picks new
    from
