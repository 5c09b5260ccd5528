use Rattle.std.proofs.Common.{◌≡◌, ◌≤◌, take}
use Rattle.std.specs.List.{flat_map}
use Rattle.tv_outside.specs.Told.{appended}
use Rattle.tv_outside.proofs.write.write_parts.Given as goal

abbrev pub invariant-loop-part : goal.invariant-loop-part
invariant-loop-part g l =
    (g.S.Sink.taken l.sink ≡ appended (g.S.Sink.taken l.fn.sink) (flat_map (λ part. part.now) (take l.part-index l.parts)))
    × (g.S.Sink.faults l.fn.sink ≤ g.S.Sink.faults l.sink)
    × (g.S.Sink.failures l.sink ≡ g.S.Sink.failures l.fn.sink)
