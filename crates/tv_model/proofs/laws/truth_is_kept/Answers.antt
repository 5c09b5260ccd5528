use Rattle.tv_model.proofs.Truths.{Truth-kept}
use Rattle.tv_model.proofs.laws.truth_is_kept.Goals as goal

pub returns : goal.returns
returns c = Truth-kept
