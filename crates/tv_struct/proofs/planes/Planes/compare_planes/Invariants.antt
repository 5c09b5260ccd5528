use Rattle.std.proofs.Common.{◌≡◌, drop}
use Rattle.tv_struct.specs.Order.{planes_cmp}
use Rattle.tv_struct.proofs.planes.Planes.compare_planes.Given as goal

abbrev pub invariant-loop-pred : goal.invariant-loop-pred
invariant-loop-pred l = planes_cmp (drop l.pred l.self.planes) (drop l.pred l.other.planes) ≡ planes_cmp l.self.planes l.other.planes
