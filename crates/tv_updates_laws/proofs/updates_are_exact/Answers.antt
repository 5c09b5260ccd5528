use Rattle.tv_updates_laws.proofs.Runs.{updates_are_exact}
use Rattle.tv_updates_laws.proofs.updates_are_exact.Goals as goal

pub returns : goal.returns
returns c = updates_are_exact
