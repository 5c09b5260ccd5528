use Rattle.tv_updates_laws.proofs.Runs.{nulls_are_told_with_updates}
use Rattle.tv_updates_laws.proofs.nulls_are_told_with_updates.Goals as goal

pub returns : goal.returns
returns c = nulls_are_told_with_updates c.nulls_are_told.ensures
