use Rattle.std.proofs.Common.{◌∙◌, sym, ap, subst}
use Rattle.tv_model.specs.Form.{form_of}
use Rattle.tv_model.specs.Valid.{IsFormulaOver}
use Rattle.tv_structure_form.specs.StructureForm.{arities_of, structure_of}
use Rattle.tv_eval_laws.specs.Value.{value}
use Rattle.tv_eval.specs.AssignmentForm.{assignment_of}
use Rattle.tv_eval.proofs.evaluator.Evaluator.offer_value.Goals as goal

pub invariant_of-self : goal.invariant_of-self
invariant_of-self c = (
  c.offer_value.ensures c.self.inside.structure.now c.self.inside.shared.items c.self.invariant.0
      (subst (λ e. IsFormulaOver (arities_of e.structure) (form_of c.args.f.now)) (sym c.self.view_is) c.requires.formula)
      (c.requires.value
      ∙ ap (λ e. value (structure_of e.structure) (assignment_of c.args.a.now) (form_of c.args.f.now))
      (sym c.self.view_is)),
  c.self.invariant.1,
)
