use Rattle.std.proofs.Common.{◌≡◌, ◌≤◌, length}
use Rattle.tv_outside.proofs.Writing.{Wrote}
use Rattle.tv_outside.proofs.write.write_all.Given as goal

abbrev pub invariant-loop-rest : goal.invariant-loop-rest
invariant-loop-rest g l =
    Wrote (g.S.Sink.taken l.initial.sink) (g.S.Sink.taken l.sink) l.bytes l.rest
    × (g.S.Sink.faults l.initial.sink ≤ g.S.Sink.faults l.sink)
    × (g.S.Sink.failures l.sink ≡ g.S.Sink.failures l.initial.sink)

abbrev pub decreases-loop-rest : goal.decreases-loop-rest
decreases-loop-rest g l = length l.rest
