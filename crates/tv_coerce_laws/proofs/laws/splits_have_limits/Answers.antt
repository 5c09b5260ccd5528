use Rattle.tv_coerce_laws.proofs.Limits.{split_limits}
use Rattle.tv_coerce_laws.proofs.laws.splits_have_limits.Goals as goal

pub returns : goal.returns
returns c = split_limits
