use Rattle.tv_model.proofs.Truths.{Truth-local}
use Rattle.tv_model.proofs.laws.truth_is_local.Goals as goal

pub returns : goal.returns
returns c = Truth-local
