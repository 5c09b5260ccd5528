use Rattle.tv_plan.proofs.Fated.{fated}
use Rattle.tv_plan.proofs.laws.fates_are_true.Goals as goal

pub returns : goal.returns
returns c = fated
