use Rattle.tv_rules.proofs.Written.{swaps_are_of_conjuncts}
use Rattle.tv_rules.proofs.laws.swaps_are_of_conjuncts.Goals as goal

pub returns : goal.returns
returns c = swaps_are_of_conjuncts
