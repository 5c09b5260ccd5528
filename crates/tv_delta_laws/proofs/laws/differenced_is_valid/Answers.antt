use Rattle.tv_delta_laws.proofs.FitUpdates.{differenced_is_valid}
use Rattle.tv_delta_laws.proofs.laws.differenced_is_valid.Goals as goal

pub returns : goal.returns
returns c = differenced_is_valid
