use Rattle.tv_concrete.proofs.Rounds.{concrete-exists}
use Rattle.tv_concrete.proofs.laws.at_least_one_is_concrete.Goals as goal

pub returns : goal.returns
returns c = λ p valid h is. concrete-exists p valid h is
