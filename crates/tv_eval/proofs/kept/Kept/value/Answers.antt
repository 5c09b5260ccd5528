use Rattle.std.proofs.Common.{sym, subst}
use Rattle.tv_model.specs.Form.{form_of}
use Rattle.tv_structure_form.specs.StructureForm.{structure_of}
use Rattle.tv_quantifiers.specs.Parts.{HoldsParts}
use Rattle.tv_eval.specs.AssignmentForm.{assignment_of}
use Rattle.tv_eval.proofs.Keeping.{some-map, value-kept}
use Rattle.tv_eval.proofs.kept.Kept.value.Goals as goal

pub returns-clause-value : goal.returns-clause-value
returns-clause-value c = some-map c.value.result _ _
    (λ x told s rooms holds. value-kept (structure_of s) (assignment_of c.args.a.now) c.in_ok-v.v.0 c.at.result
    (form_of c.args.f.now) x c.at.ensures
    (λ b. told (structure_of s) b (subst (HoldsParts (structure_of s)) (sym c.variable.ensures) holds.parts)))
    c.value.ensures.value
