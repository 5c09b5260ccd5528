use Rattle.std.proofs.Common.{◌≡◌, ◌≤◌, ◌*◌, min}
use Rattle.std.specs.Prelude.{fold}
use Rattle.std.specs.List.{range_with_len}
use Rattle.tv_structure_form.specs.StructureForm.{structure_of, summary_at}
use Rattle.tv_focus_laws.specs.Counts.{few_sets, halves_at}
use Rattle.tv_focus.specs.Seen.{aim_of}
use Rattle.tv_focus.proofs.count.few_choices.Given as goal

abbrev pub invariant-loop-u : goal.invariant-loop-u
invariant-loop-u l = record {
  most : l.total ≤ 4097;
  is : l.total ≡ fold (λ total u. min (total * few_sets (summary_at l.s u) (halves_at (structure_of l.s) l.p.0 (aim_of l.aim) u)) 4097)
      1 (range_with_len 0 l.u);
}
