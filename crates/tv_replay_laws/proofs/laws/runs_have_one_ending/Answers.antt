use Rattle.tv_replay_laws.proofs.OneEnding.{runs_have_one_ending}
use Rattle.tv_replay_laws.proofs.laws.runs_have_one_ending.Goals as goal

pub returns : goal.returns
returns c = runs_have_one_ending c.at_most_one_is_concrete.ensures
