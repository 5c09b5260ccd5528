use Rattle.std.proofs.Common.{◌∙◌, ap}
use Rattle.tv_model.specs.Form.{form_of}
use Rattle.tv_structure_form.specs.StructureForm.{structure_of}
use Rattle.tv_eval_laws.specs.Value.{value}
use Rattle.tv_eval.specs.AssignmentForm.{assignment_of}
use Rattle.tv_eval.proofs.Keeping.{some-map}
use Rattle.tv_eval.proofs.evaluator.Evaluator.kept_value.Goals as goal

pub returns-clause-value : goal.returns-clause-value
returns-clause-value c =
    some-map c.value.result _ _
    (λ k is. is c.self.inside.structure.now c.self.inside.shared.items c.self.invariant.0
    ∙ ap (λ e. value (structure_of e.structure) (assignment_of c.args.a.now) (form_of c.args.f.now)) c.self.view_is)
    c.value.ensures.value
