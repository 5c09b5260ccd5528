use Rattle.std.proofs.Common.{◌≡◌, length}
use Rattle.tv_structure_form.specs.TableForm.{IsTable}
use Rattle.tv_struct.proofs.PlaneDraws.{planes_so_far}
use Rattle.tv_struct.proofs.planes.Planes.drawn.Given as goal

abbrev pub invariant-loop-pred : goal.invariant-loop-pred
invariant-loop-pred l = record {
  so_far : l.drawn ≡ record { size = length l.drawing.origins; planes = planes_so_far l.self l.drawing.origins l.pred };
  kept : IsTable l.drawn;
}
