use Rattle.std.proofs.Common.{ℕ, ◌<◌, [], get_or}
use Rattle.tv_cover.specs.Glance.{LieUnder}
use Rattle.tv_cover.proofs.glance.lies_under_some.Given as goal

abbrev pub invariant-loop-other : goal.invariant-loop-other
invariant-loop-other l = (k : ℕ) → k < l.other-index → ¬ LieUnder l.row (get_or l.others k [])
