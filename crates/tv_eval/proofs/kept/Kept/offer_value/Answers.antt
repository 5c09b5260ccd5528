use Rattle.std.proofs.Common.{sym, subst}
use Rattle.tv_model.specs.Form.{form_of}
use Rattle.tv_structure_form.specs.StructureForm.{structure_of}
use Rattle.tv_quantifiers.specs.Parts.{HoldsParts}
use Rattle.tv_eval.specs.AssignmentForm.{assignment_of}
use Rattle.tv_eval.proofs.Keeping.{keeps-value}
use Rattle.tv_eval.proofs.kept.Kept.offer_value.Goals as goal

pub returns-in-Some : goal.returns-in-Some
returns-in-Some c = λ s rooms holds over exact. record {
  each = holds.each;
  parts = c.keep.ensures (structure_of s)
      (subst (HoldsParts (structure_of s)) (sym c.took_long.ensures) holds.parts)
      (keeps-value s (assignment_of c.args.a.now) c.in-Some.v.0 c.at.result (form_of c.args.f.now) c.args.k over
      c.at.ensures c.in-Some.ensures exact);
}
