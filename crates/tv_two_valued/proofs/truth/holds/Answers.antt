use Rattle.std.proofs.Common.{◌↔◌, Bool, IsTrue, sym, ap, ◌∙◌, subst}
use Rattle.tv_eval.specs.AssignmentForm.{assignment_of}
use Rattle.tv_eval.specs.Bound.{bound_structure}
use Rattle.tv_model.specs.Form.{form_of}
use Rattle.tv_model.specs.Truth.{Truth}
use Rattle.tv_kleene.specs.Kleene.{is_yes}
use Rattle.tv_two_valued.specs.TwoValued.{heap_of}
use Rattle.tv_two_valued.proofs.Truths.{answers_truth}
use Rattle.tv_two_valued.proofs.truth.holds.Goals as goal

pub returns-clause-truth : goal.returns-clause-truth
returns-clause-truth c =
    let P : Bool → Type 0 = λ b. IsTrue b ↔ Truth (heap_of (bound_structure c.args.evaluator.now)) (assignment_of c.args.a.now) (form_of c.args.f.now)
    in subst P (sym (c.is_yes.ensures ∙ ap is_yes c.value.ensures.exact))
    (answers_truth (bound_structure c.args.evaluator.now) c.args.a.now (form_of c.args.f.now) c.requires.structure c.requires.two_valued c.requires.assigned)
