use Rattle.std.proofs.Common.{◌≡◌, ◌≤◌, ◌*◌, map, sum}
use Rattle.std.specs.List.{range_with_len}
use Rattle.tv_structure_form.specs.StructureForm.{structure_of, summary_at}
use Rattle.tv_focus_laws.specs.Counts.{vector_count, halves_at}
use Rattle.tv_focus.specs.Seen.{aim_of}
use Rattle.tv_focus.proofs.count.largest_size.Given as goal

abbrev pub invariant-loop-u : goal.invariant-loop-u
invariant-loop-u l = record {
  most : l.total ≤ 8 * l.u;
  is : l.total ≡ sum (map (λ u. vector_count (summary_at l.s u) (halves_at (structure_of l.s) l.p.0 (aim_of l.aim) u)) (range_with_len 0 l.u));
}
