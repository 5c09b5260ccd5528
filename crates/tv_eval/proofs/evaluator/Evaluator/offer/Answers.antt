use Rattle.std.proofs.Common.{◌∙◌, length, sym, ap, subst, arith}
use Rattle.tv_model.specs.Form.{form_of}
use Rattle.tv_model.specs.Valid.{IsFormulaOver}
use Rattle.tv_structure_form.specs.StructureForm.{arities_of}
use Rattle.tv_eval.specs.AssignmentForm.{assignment_of}
use Rattle.tv_eval.specs.HoldsClosure.{HoldsClosure}
use Rattle.tv_eval.specs.Keeps.{HoldsClosures}
use Rattle.tv_eval.proofs.Rooms.{written_items}
use Rattle.tv_eval.proofs.evaluator.Evaluator.offer.Goals as goal

pub invariant_of-self : goal.invariant_of-self
invariant_of-self c = (
  subst (HoldsClosures c.self.inside.structure.now c.offer.new.self)
      (sym (written_items c.self.inside.shared.len c.offer.new.rooms c.self.inside.shared.items (omega arith)
      (c.offer.auto.rooms ∙ ap length c.as_mut_slice.ensures.value)))
      (c.offer.ensures.kept c.self.inside.structure.now (assignment_of c.args.a.now)
      (subst (HoldsClosures c.self.inside.structure.now c.self.inside.kept) (sym c.as_mut_slice.ensures.value)
      c.self.invariant.0)
      (subst (λ e. IsFormulaOver (arities_of e.structure) (form_of c.args.edges.body.now)) (sym c.self.view_is)
      c.requires.body)
      (subst (λ e. HoldsClosure e.structure (assignment_of c.args.a.now) c.args.edges.left.0 c.args.edges.right.0
      (form_of c.args.edges.body.now) c.args.closed.now) (sym c.self.view_is) c.requires.closed)),
  c.self.invariant.1,
)
