use Rattle.tv_cover.proofs.GlanceLaws.{AreMarkedTo}
use Rattle.tv_cover.proofs.glance.Glance.marks.Given as goal

abbrev pub invariant-loop-row : goal.invariant-loop-row
invariant-loop-row l = AreMarkedTo l.self l.row-index l.marks
