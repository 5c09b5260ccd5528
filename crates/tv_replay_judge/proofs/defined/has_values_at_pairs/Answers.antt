use Rattle.std.proofs.Common.{◌≡◌, ◌<◌, ◌∙◌, refl, sym, ap, subst, arith}
use Rattle.std.proofs.lemmas.Bool.{false≢true}
use Rattle.tv_eval.specs.Along.{values_along}
use Rattle.tv_eval.specs.AssignmentForm.{assignment_of}
use Rattle.tv_eval.specs.Bound.{bound_structure}
use Rattle.tv_eval.specs.Formulas.{AreAssigned}
use Rattle.tv_model.specs.Form.{form_of, FExists}
use Rattle.tv_model.specs.Rules.{blank}
use Rattle.tv_model.specs.Truth.{put}
use Rattle.tv_replay_judge.proofs.Compared.{none-blank, two-assigned, values-pairs}
use Rattle.tv_replay_judge.proofs.defined.has_values_at_pairs.Goals as goal

pub row-row-requires-clause-assigned : goal.row-row-requires-clause-assigned
row-row-requires-clause-assigned c =
    subst (λ t. AreAssigned t.size c.with.result (FExists c.args.w.0 (form_of c.args.f.now))) (sym (ap bound_structure c.loop-u.invariant.0 ∙ c.requires.structure))
    (two-assigned c.args.s.now.size c.new.result c.with.result c.args.v.0 c.args.w.0 c.loop-u.u (form_of c.args.f.now) c.requires.can.over
    (omega (arith, c.loop-u-test.true, c.size-u-end.ensures.size)) c.with.ensures.places)

pub returns-then-not-equals-clause-same : goal.returns-then-not-equals-clause-same
returns-then-not-equals-clause-same c =
    let s = c.args.s.now
    in let f = form_of c.args.f.now
    in let within : c.loop-u.u < s.size = omega (arith, c.loop-u-test.true, c.size-u-end.ensures.size)
    in let read : c.row-row.result ≡ values_along s (put blank c.args.v.0 c.loop-u.u) c.args.w.0 f
    = c.row-row.ensures.exact ∙ ap (λ t. values_along t (assignment_of c.with.result) c.args.w.0 f) (ap bound_structure c.loop-u.invariant.0 ∙ c.requires.structure)
    ∙ ap (λ a. values_along s a c.args.w.0 f) (c.with.ensures.total ∙ ap (λ a. put a c.args.v.0 c.loop-u.u) (none-blank c.new.result c.new.ensures))
    in (
      λ e. absurd (false≢true e),
      λ has. absurd (false≢true (c.if-not-equals.ensures.1
          (read ∙ (values-pairs s c.args.p.0 f c.args.v.0 c.args.w.0).1 has c.loop-u.u within ∙ sym c.row.ensures))),
    )

pub returns-clause-same : goal.returns-clause-same
returns-clause-same c = (
  λ e. (values-pairs c.args.s.now c.args.p.0 (form_of c.args.f.now) c.args.v.0 c.args.w.0).0
      (λ k lt. c.loop-u.invariant.1 k (omega (arith, lt, c.loop-u-test.false, c.size-u-end.ensures.size))),
  λ has. refl,
)
