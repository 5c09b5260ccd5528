use Rattle.tv_update_laws.proofs.Choices.{update_loses_no_heap}
use Rattle.tv_update_laws.proofs.laws.update_loses_no_heap.Goals as goal

pub returns : goal.returns
returns c = λ p valid mode action at s picks new from ts given.
    update_loses_no_heap p valid mode action at s picks new from ts given
