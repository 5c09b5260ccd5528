use Rattle.tv_work.proofs.Growing.{MetUpTo}
use Rattle.tv_work.proofs.search.Search.meet_all.Given as goal

abbrev pub invariant-loop-s : goal.invariant-loop-s
invariant-loop-s l = MetUpTo l.max l.node l.fn.found l.yielded l.initial.self l.self
