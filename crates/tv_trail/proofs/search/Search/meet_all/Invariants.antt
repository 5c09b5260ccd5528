use Rattle.tv_trail.proofs.Kept.{MetUpTo}
use Rattle.tv_trail.proofs.search.Search.meet_all.Given as goal

abbrev pub invariant-loop-s : goal.invariant-loop-s
invariant-loop-s l = MetUpTo l.max l.node l.origin l.fn.results l.yielded l.initial.self l.self
