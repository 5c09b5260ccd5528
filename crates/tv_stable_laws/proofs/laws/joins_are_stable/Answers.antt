use Rattle.tv_stable_laws.proofs.Joins.{joins_are_stable}
use Rattle.tv_stable_laws.proofs.laws.joins_are_stable.Goals as goal

pub returns : goal.returns
returns c = joins_are_stable
