use Rattle.std.proofs.Common.{◌≡◌}
use Rattle.tv_two_valued.specs.TwoValued.{heap_of}
use Rattle.tv_replay_judge.proofs.Rules.{MeetsFirst}
use Rattle.tv_replay_judge.proofs.first.first_of.Given as goal

abbrev pub invariant-loop-n : goal.invariant-loop-n
invariant-loop-n l = MeetsFirst (heap_of l.s) l.rules l.n × (l.scratch ≡ l.initial.scratch)
