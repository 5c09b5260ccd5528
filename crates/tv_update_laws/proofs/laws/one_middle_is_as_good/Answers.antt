use Rattle.tv_update_laws.proofs.Middles.{one_middle_is_as_good}
use Rattle.tv_update_laws.proofs.laws.one_middle_is_as_good.Goals as goal

pub returns : goal.returns
returns c = one_middle_is_as_good
