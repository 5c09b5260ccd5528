use Rattle.tv_coerce_laws.proofs.Splits.{splits_are_stable}
use Rattle.tv_coerce_laws.proofs.laws.splits_are_stable.Goals as goal

pub returns : goal.returns
returns c = splits_are_stable
