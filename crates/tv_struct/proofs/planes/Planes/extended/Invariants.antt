use Rattle.std.proofs.Common.{◌≡◌, ◌+◌, length}
use Rattle.std.specs.List.{range_with_len}
use Rattle.tv_structure_form.specs.TableForm.{IsTable}
use Rattle.tv_struct.proofs.PlaneDraws.{planes_so_far}
use Rattle.tv_struct.proofs.planes.Planes.extended.Given as goal

abbrev pub invariant-loop-pred : goal.invariant-loop-pred
invariant-loop-pred l = record {
  so_far : l.extended ≡ record { size = length (range_with_len 0 (l.self.size + 1)); planes = planes_so_far l.self (range_with_len 0 (l.self.size + 1)) l.pred };
  kept : IsTable l.extended;
}
