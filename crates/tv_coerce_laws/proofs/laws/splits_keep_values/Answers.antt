use Rattle.tv_coerce_laws.proofs.Splits.{splits_keep_values}
use Rattle.tv_coerce_laws.proofs.laws.splits_keep_values.Goals as goal

pub returns : goal.returns
returns c = splits_keep_values
