use Rattle.std.proofs.Common.{◌≡◌, None}
use Rattle.tv_structure_form.specs.StructureForm.{arities_of}
use Rattle.tv_layout.proofs.structure.put_items.Given as goal

abbrev pub invariant-loop-b : goal.invariant-loop-b
invariant-loop-b l = record {
  over : arities_of l.s ≡ arities_of l.initial.s;
  fresh : l.s.fresh ≡ None;
}
