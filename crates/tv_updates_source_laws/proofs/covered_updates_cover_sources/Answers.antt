use Rattle.tv_updates_source_laws.proofs.Covered.{covered_updates_cover_sources}
use Rattle.tv_updates_source_laws.proofs.covered_updates_cover_sources.Goals as goal

pub returns : goal.returns
returns c = covered_updates_cover_sources c.covered_runs_cover_sources.ensures
