use Rattle.std.proofs.Common.{◌≡◌, ◌+◌}
use Rattle.std.specs.List.{range_with_len}
use Rattle.tv_structure_form.specs.TableForm.{IsTable, plane_at, plane_drawn}
use Rattle.tv_struct.proofs.PlaneDraws.{drawn_so_far}
use Rattle.tv_struct.proofs.planes.Planes.extend_plane.Given as goal

abbrev pub invariant-loop-row : goal.invariant-loop-row
invariant-loop-row l = record {
  so_far : l.self ≡ drawn_so_far l.initial.self l.p.0 l.row (plane_drawn (range_with_len 0 (l.source.size + 1)) (plane_at l.source l.p.0)).rows;
  kept : IsTable l.self;
}
