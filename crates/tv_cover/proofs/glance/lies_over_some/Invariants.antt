use Rattle.std.proofs.Common.{ℕ, ◌<◌, [], get_or}
use Rattle.tv_cover.specs.Glance.{LieUnder}
use Rattle.tv_cover.proofs.glance.lies_over_some.Given as goal

abbrev pub invariant-loop-row : goal.invariant-loop-row
invariant-loop-row l = (k : ℕ) → k < l.row-index → ¬ LieUnder (get_or l.rows k []) l.other
