use Rattle.tv_delta_laws.proofs.AtomTruths.{updates_tell_the_truth}
use Rattle.tv_delta_laws.proofs.laws.updates_tell_the_truth.Goals as goal

pub returns : goal.returns
returns c = updates_tell_the_truth c.truth_is_decided.ensures
