use Rattle.tv_join.proofs.Single.{one_joined}
use Rattle.tv_join.proofs.laws.joined_analyses_are_one.Goals as goal

pub returns : goal.returns
returns c = one_joined
