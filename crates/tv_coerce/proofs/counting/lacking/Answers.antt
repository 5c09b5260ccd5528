-- One member more.
use Rattle.std.proofs.Common.{◌≡◌, ◌∙◌, ap, arith, get_or, length, subst, sym}
use Rattle.std.proofs.lemmas.List.{length-map}
use Rattle.tv_coerce_members.specs.Members.{member_of, members_of}
use Rattle.tv_eval.specs.AssignmentForm.{assignment_of}
use Rattle.tv_eval.specs.Bound.{bound_room, bound_structure}
use Rattle.tv_eval_laws.specs.Value.{value}
use Rattle.tv_structure_form.specs.StructureForm.{structure_of}
use Rattle.tv_coerce.proofs.Lacks.{IsLackingBy, lacking-next, lacking-whole}
use Rattle.tv_coerce.proofs.Noting.{valued-bound}
use Rattle.tv_coerce.proofs.Reading.{member-at}
use Rattle.tv_coerce.proofs.counting.lacking.Goals as goal

pub value-value-requires-clause-formula : goal.value-value-requires-clause-formula
value-value-requires-clause-formula c =
    let x = c.index-members-number.result
    in let xs = c.as_slice-members.result.now
    in let k = c.loop-number.number
    in let at = member-at xs c.args.trial.now.shape.now.members k x c.as_slice-members.ensures c.loop-number-test.true
    in let stays = c.loop-number.invariant.0
    in (valued-bound c.args.trial.now.structure.now (bound_structure c.loop-number.evaluator) (bound_room c.args.evaluator.now)
    (bound_room c.loop-number.evaluator) c.args.a.now (member_of (get_or xs k x)) (ap bound_structure stays ∙ c.requires.structure)
    (ap bound_room stays)
    (c.requires.can k (member_of (get_or xs k x)) at)).formula

pub value-value-requires-clause-assigned : goal.value-value-requires-clause-assigned
value-value-requires-clause-assigned c =
    let x = c.index-members-number.result
    in let xs = c.as_slice-members.result.now
    in let k = c.loop-number.number
    in let at = member-at xs c.args.trial.now.shape.now.members k x c.as_slice-members.ensures c.loop-number-test.true
    in let stays = c.loop-number.invariant.0
    in (valued-bound c.args.trial.now.structure.now (bound_structure c.loop-number.evaluator) (bound_room c.args.evaluator.now)
    (bound_room c.loop-number.evaluator) c.args.a.now (member_of (get_or xs k x)) (ap bound_structure stays ∙ c.requires.structure)
    (ap bound_room stays)
    (c.requires.can k (member_of (get_or xs k x)) at)).assigned

pub value-value-requires-clause-fits : goal.value-value-requires-clause-fits
value-value-requires-clause-fits c =
    let x = c.index-members-number.result
    in let xs = c.as_slice-members.result.now
    in let k = c.loop-number.number
    in let at = member-at xs c.args.trial.now.shape.now.members k x c.as_slice-members.ensures c.loop-number-test.true
    in let stays = c.loop-number.invariant.0
    in (valued-bound c.args.trial.now.structure.now (bound_structure c.loop-number.evaluator) (bound_room c.args.evaluator.now)
    (bound_room c.loop-number.evaluator) c.args.a.now (member_of (get_or xs k x)) (ap bound_structure stays ∙ c.requires.structure)
    (ap bound_room stays)
    (c.requires.can k (member_of (get_or xs k x)) at)).fits

pub loop-number-preserved : goal.loop-number-preserved
loop-number-preserved c =
    let s = c.args.trial.now.structure.now
    in let ms = c.args.trial.now.shape.now.members
    in let x = c.index-members-number.result
    in let xs = c.as_slice-members.result.now
    in let at = member-at xs ms c.loop-number.number x c.as_slice-members.ensures c.loop-number-test.true
    in let stays = c.loop-number.invariant.0
    in (
      c.value-value.ensures.same ∙ stays,
      subst (IsLackingBy s (assignment_of c.args.a.now) (members_of ms) _) (sym c.lacking_too-found.ensures)
          (lacking-next s (assignment_of c.args.a.now) (members_of ms) c.loop-number.number (member_of (get_or xs c.loop-number.number x)) at
          c.loop-number.found c.value-value.result
          (sym (subst (λ t. c.value-value.result ≡ value (structure_of t) (assignment_of c.args.a.now) (member_of (get_or xs c.loop-number.number x)).form)
          (ap bound_structure stays ∙ c.requires.structure) c.value-value.ensures.exact))
          c.loop-number.invariant.1),
    )

pub returns-clause-lacking : goal.returns-clause-lacking
returns-clause-lacking c =
    let ms = c.args.trial.now.shape.now.members
    in lacking-whole c.args.trial.now.structure.now (assignment_of c.args.a.now) (members_of ms) c.loop-number.number c.loop-number.found
    (omega (arith, c.loop-number-test.false, length-map ms member_of, ap length c.as_slice-members.ensures)) c.loop-number.invariant.1
