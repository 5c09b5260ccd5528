use Rattle.tv_updates_laws.proofs.Runs.{source_runs_are_updated_runs}
use Rattle.tv_updates_laws.proofs.source_runs_are_updated_runs.Goals as goal

pub returns : goal.returns
returns c = source_runs_are_updated_runs c.source_runs_are_runs.ensures
