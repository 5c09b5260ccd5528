use Rattle.std.proofs.Common.{sym, ap, subst, inl, refl, ◌∙◌}
use Rattle.tv_model.specs.Program.{HSame}
use Rattle.tv_stable_laws.specs.Stable.{IsHeadMet}
use Rattle.tv_eval.specs.AssignmentForm.{assignment_of, individual_for}
use Rattle.tv_structure_form.specs.StructureForm.{summary_at}
use Rattle.tv_coerce.proofs.Heads.{same-plain, placed}
use Rattle.tv_coerce.proofs.need.need_of_equality.Goals as goal

pub returns-else-flag-2 : goal.returns-else-flag-2
returns-else-flag-2 c u below met =
    let a = assignment_of c.args.a.now
    in same-plain c.args.s.now a c.args.v.0 c.args.w.0
    (placed c.args.s.now.size (individual_for c.args.a.now c.args.v.0) (c.requires.assigned c.args.v.0 (inl refl)))
    (sym c.at-u.ensures ∙ c.if-u-at.false ∙ c.at.ensures)
    (ap (summary_at c.args.s.now) (sym c.at-u.ensures) ∙ sym c.if-not-summary.ensures) u below
    (subst (λ flag. IsHeadMet u a (HSame flag c.args.v.0 c.args.w.0)) c.if-flag-2.false met)
