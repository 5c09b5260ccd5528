use Rattle.tv_plang_laws.proofs.Runs.{source_runs_are_runs}
use Rattle.tv_plang_laws.proofs.source_runs_are_runs.Goals as goal

pub returns : goal.returns
returns c = source_runs_are_runs
