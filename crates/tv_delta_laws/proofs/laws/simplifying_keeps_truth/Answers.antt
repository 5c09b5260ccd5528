use Rattle.tv_delta_laws.proofs.SimpleLaws.{simplifying_keeps_truth}
use Rattle.tv_delta_laws.proofs.laws.simplifying_keeps_truth.Goals as goal

pub returns : goal.returns
returns c = simplifying_keeps_truth c.truth_is_decided.ensures
