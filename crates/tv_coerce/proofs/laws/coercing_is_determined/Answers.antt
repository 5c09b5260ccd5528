use Rattle.tv_coerce.proofs.Once.{coercing_is_determined}
use Rattle.tv_coerce.proofs.laws.coercing_is_determined.Goals as goal

pub returns : goal.returns
returns c = coercing_is_determined
