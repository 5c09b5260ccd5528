use Rattle.tv_step_laws.proofs.Runs.{closed_listings_cover_runs}
use Rattle.tv_step_laws.proofs.laws.closed_listings_cover_runs.Goals as goal

pub returns : goal.returns
returns c = closed_listings_cover_runs
