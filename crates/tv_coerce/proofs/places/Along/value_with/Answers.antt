-- The member is what its number says, with the individual put for the variable.
use Rattle.std.proofs.Common.{◌≡◌, arith, get_or, subst, sym}
use Rattle.tv_coerce_members.specs.Members.{member_of}
use Rattle.tv_eval.specs.AssignmentForm.{assignment_of}
use Rattle.tv_eval.specs.Bound.{bound_structure}
use Rattle.tv_eval.specs.Formulas.{AreAssigned}
use Rattle.tv_eval_laws.specs.Value.{value}
use Rattle.tv_model.specs.Truth.{put}
use Rattle.tv_structure_form.specs.StructureForm.{structure_of}
use Rattle.tv_coerce.proofs.Reading.{indexed-member, with-assigned}
use Rattle.tv_coerce.proofs.places.Along.value_with.Goals as goal

pub value-requires-clause-assigned : goal.value-requires-clause-assigned
value-requires-clause-assigned c =
    let can = c.requires.can
    in let size = c.args.self.now.trial.now.structure.now.size
    in let x = c.index-members-step.result
    in let xs = c.as_slice-members.result.now
    in let k = c.args.step.now.member
    in let is = indexed-member xs c.args.self.now.trial.now.shape.now.members k x can.member
    c.as_slice-members.ensures c.index-members-step.is
    can.there
    in subst (λ t. AreAssigned t.size c.set.new.self (member_of (get_or xs k x)).form) (sym c.requires.structure)
    (subst (λ n. AreAssigned size c.set.new.self n.form) (sym is)
    (with-assigned size c.args.self.now.a.now c.set.new.self c.args.self.now.span.v.0 c.args.u can.member.form
    (omega (arith, c.if-u-size.false, c.size.ensures.size)) c.set.ensures.places can.assigned))

pub returns-clause-exact : goal.returns-clause-exact
returns-clause-exact c = λ m at within.
    let a = put (assignment_of c.args.self.now.a.now) c.args.self.now.span.v.0 c.args.u
    in let x = c.index-members-step.result
    in let xs = c.as_slice-members.result.now
    in let is = indexed-member xs c.args.self.now.trial.now.shape.now.members c.args.step.now.member x m
    c.as_slice-members.ensures c.index-members-step.is at
    in subst (λ t. c.value.result ≡ value (structure_of t) a m.form) c.requires.structure
    (subst (λ n. c.value.result ≡ value (structure_of (bound_structure c.args.evaluator.now)) a n.form) is
    (subst (λ b. c.value.result ≡ value (structure_of (bound_structure c.args.evaluator.now)) b (member_of (get_or xs c.args.step.now.member x)).form)
    c.set.ensures.total c.value.ensures.exact))
