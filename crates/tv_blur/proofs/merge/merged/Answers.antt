use Rattle.std.proofs.Common.{◌∙◌, ap, length}
use Rattle.tv_structure_form.specs.StructureForm.{StructureForm, arities_of, value_at}
use Rattle.tv_structure_form.proofs.StructureLaws.{new_is_no}
use Rattle.tv_blur.proofs.merge.merged.Goals as goal

pub put_summaries-requires-clause-blank : goal.put_summaries-requires-clause-blank
put_summaries-requires-clause-blank c pred past tuple =
    ap (λ (t : StructureForm). value_at t pred tuple) c.in_ok-t.ensures.value
    ∙ (new_is_no (length c.args.classes.now) (arities_of c.args.s.now)).values pred tuple
