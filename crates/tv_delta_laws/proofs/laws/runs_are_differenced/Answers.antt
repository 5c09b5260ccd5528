use Rattle.tv_delta_laws.proofs.Differenced.{runs_are_differenced}
use Rattle.tv_delta_laws.proofs.laws.runs_are_differenced.Goals as goal

pub returns : goal.returns
returns c = runs_are_differenced c.truth_is_decided.ensures
