use Rattle.std.proofs.Common.{◌≡◌, None}
use Rattle.tv_structure_form.specs.StructureForm.{arities_of}
use Rattle.tv_layout.proofs.structure.put_lines.Given as goal

abbrev pub invariant-loop : goal.invariant-loop
invariant-loop l = record {
  over : arities_of l.s ≡ arities_of l.initial.s;
  fresh : l.s.fresh ≡ None;
}
