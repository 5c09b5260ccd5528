use Rattle.tv_update_laws.proofs.Determined.{new_structures_are_determined}
use Rattle.tv_update_laws.proofs.laws.new_structures_are_determined.Goals as goal

pub returns : goal.returns
returns c = λ p valid mode action picks middle keep s t a b. new_structures_are_determined p valid mode action
    picks middle keep s t a b
