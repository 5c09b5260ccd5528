use Rattle.tv_source_laws.proofs.Covered.{covered_runs_cover_sources}
use Rattle.tv_source_laws.proofs.covered_runs_cover_sources.Goals as goal

pub returns : goal.returns
returns c =
    covered_runs_cover_sources c.source_runs_are_runs.ensures c.memories_have_heaps.ensures c.memories_stay.ensures
    c.nulls_are_told.ensures
