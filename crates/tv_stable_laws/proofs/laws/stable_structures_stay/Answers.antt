use Rattle.tv_stable_laws.proofs.Joined.{stable_structures_stay}
use Rattle.tv_stable_laws.proofs.laws.stable_structures_stay.Goals as goal

pub returns : goal.returns
returns c = stable_structures_stay
