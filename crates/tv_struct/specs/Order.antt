-- The order of structures.
use Rattle.std.specs.Prelude.{List}
use Rattle.std.specs.declared.cmp.Ordering.{Ordering}
use Rattle.std.specs.Ordering.{nat_cmp, bool_cmp, on, then_cmp}
use Rattle.std.specs.Cmp.{IsTotalOrder, nat_cmp_total, bool_cmp_total, on_total, then_total}
use Rattle.std.specs.Cmp.Lexicographic.{slice_cmp, lists_total}
use Rattle.tv_row.specs.Bits.{rank, value_cmp}
use Rattle.tv_structure_form.specs.TableForm.{PlaneForm}
use Rattle.tv_structure_form.specs.StructureForm.{StructureForm}

-- by arity, then tuple by tuple in lexicographic order: row by row, and from column to column
abbrev pub plane_cmp : PlaneForm → PlaneForm → Ordering
plane_cmp =
    then_cmp (on (λ plane. plane.arity) nat_cmp) (on (λ plane. plane.rows) (slice_cmp (slice_cmp value_cmp)))

-- predicate by predicate
abbrev pub planes_cmp : List PlaneForm → List PlaneForm → Ordering
planes_cmp = slice_cmp plane_cmp

-- by size, then by summaries, individual by individual, then by values; marks don't count
abbrev pub structure_cmp : StructureForm → StructureForm → Ordering
structure_cmp =
    then_cmp (on (λ s. s.size) nat_cmp)
    (then_cmp (on (λ s. s.summaries) (slice_cmp bool_cmp)) (on (λ s. s.planes) planes_cmp))

plane_cmp_total : IsTotalOrder plane_cmp
plane_cmp_total =
    then_total (on_total (λ plane. plane.arity) nat_cmp_total)
    (on_total (λ plane. plane.rows) (lists_total (lists_total (on_total rank nat_cmp_total))))

-- the order is total up to marks
pub structure_cmp_total : IsTotalOrder structure_cmp
structure_cmp_total =
    then_total (on_total (λ s. s.size) nat_cmp_total)
    (then_total (on_total (λ s. s.summaries) (lists_total bool_cmp_total))
    (on_total (λ s. s.planes) (lists_total plane_cmp_total)))
