use Rattle.tv_cover.specs.Glance.{AreSummariesTo}
use Rattle.tv_cover.proofs.glance.Glance.summaries.Given as goal

abbrev pub invariant-loop-row : goal.invariant-loop-row
invariant-loop-row l = AreSummariesTo l.known l.self.unary l.row-index l.slots
