use Rattle.std.proofs.Common.{◌≡◌, drop}
use Rattle.std.specs.Cmp.Lexicographic.{slice_cmp}
use Rattle.tv_row.specs.Bits.{value_cmp}
use Rattle.tv_structure_form.specs.TableForm.{plane_at}
use Rattle.tv_struct.proofs.planes.Planes.compare_rows.Given as goal

abbrev pub invariant-loop-row : goal.invariant-loop-row
invariant-loop-row l =
    slice_cmp (slice_cmp value_cmp) (drop l.row (plane_at l.self l.p.0).rows) (drop l.row (plane_at l.other l.p.0).rows)
    ≡ slice_cmp (slice_cmp value_cmp) (plane_at l.self l.p.0).rows (plane_at l.other l.p.0).rows
