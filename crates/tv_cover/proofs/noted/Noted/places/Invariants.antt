use Rattle.tv_cover.proofs.NotedLaws.{AreLookedUp}
use Rattle.tv_cover.proofs.noted.Noted.places.Given as goal

abbrev pub invariant-loop-known : goal.invariant-loop-known
invariant-loop-known l = AreLookedUp l.self l.glance l.known-index l.found.items
