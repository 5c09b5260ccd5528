use Rattle.tv_two_valued.proofs.Truths.{truth_is_told}
use Rattle.tv_two_valued.proofs.laws.truth_is_told.Goals as goal

pub returns : goal.returns
returns c = truth_is_told
