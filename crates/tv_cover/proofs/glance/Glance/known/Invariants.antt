use Rattle.tv_cover.specs.Glance.{AreKnown}
use Rattle.tv_cover.proofs.glance.Glance.known.Given as goal

abbrev pub invariant-loop-place : goal.invariant-loop-place
invariant-loop-place l = AreKnown l.self l.known
