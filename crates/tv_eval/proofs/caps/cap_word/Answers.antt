use Rattle.std.proofs.Common.{rules, ℕ, ◌≡◌, inl, inr, sym, subst}
use Rattle.tv_model.specs.Form.{Form, form_of, IsFree}
use Rattle.tv_model.specs.Valid.{IsFormulaOver}
use Rattle.tv_structure_form.specs.StructureForm.{arities_of}
use Rattle.tv_quantifiers.specs.Quantified.{quantified}
use Rattle.tv_quantifiers.proofs.Opening.{formula-under, free-over}
use Rattle.tv_eval.specs.AssignmentForm.{assignment_of}
use Rattle.tv_eval.specs.Caps.{IsRuledOut}
use Rattle.tv_eval.proofs.Capping.{IsJoint, caps-none, caps-both, joint-over, joint-free, joint-left}
use Rattle.tv_eval.proofs.Capping.{joint-right}
use Rattle.tv_eval.proofs.Capping.{out-under}
use Rattle.tv_eval.proofs.caps.cap_word.Goals.{in-Exists-Exists, in-Exists-Exists-2, in-Exists-And}
use Rattle.tv_eval.proofs.caps.cap_word.Goals.{in-Exists-And-2}
use Rattle.tv_eval.proofs.caps.cap_word.Goals as goal

pub loop-part-init : goal.loop-part-init
loop-part-init c = record {
  over = c.requires.formula;
  seen = c.requires.seen;
  into = λ x out. out;
  caps = caps-none c.args.s.now.size c.args.chunk
      (IsRuledOut c.args.s.now (assignment_of c.args.a.now) c.args.hidden c.args.w.0 c.args.q (form_of c.args.f.now))
      c.of-caps.result c.of-caps.ensures;
}

pub returns-in_default : goal.returns-in_default
returns-in_default c =
    caps-both c.args.s.now.size c.args.chunk
    (IsRuledOut c.args.s.now (assignment_of c.args.a.now) c.args.hidden c.args.w.0 c.args.q (form_of c.args.f.now))
    (IsRuledOut c.args.s.now (assignment_of c.args.a.now) c.loop-part.inner c.args.w.0 c.loop-part.side
    (form_of c.loop-part.part.now))
    c.loop-part.caps c.leaf_cap.result c.and.result c.loop-part.invariant.caps c.leaf_cap.ensures
    c.loop-part.invariant.into c.and.ensures

pub loop-part-preserved : goal.loop-part-preserved
loop-part-preserved c =
    let left : Form = form_of c.deref-part-in-Exists-And.result.now
    in let right : Form = form_of c.deref.result.now
    in let joint : IsJoint c.loop-part.side (form_of c.loop-part.part.now) left right =
    elim c.in-Exists-And-1.branch [
      | in-Exists-And w ↦ inl (w.in-Exists-And.is-0, search rules)
      | in-Exists-And-2 w ↦ inr (w.in-Exists-And.is-0, search rules)
    ]
    in record {
      over = (joint-over (arities_of c.args.s.now) c.loop-part.side (form_of c.loop-part.part.now) left right joint
          c.loop-part.invariant.over).0;
      seen = λ v ne outside free. c.loop-part.invariant.seen v ne outside
          (joint-free c.loop-part.side (form_of c.loop-part.part.now) left right v joint (inl free));
      into = λ x out. c.loop-part.invariant.into x
          (joint-left c.args.s.now (assignment_of c.args.a.now) c.loop-part.inner c.args.w.0 x c.loop-part.side
          (form_of c.loop-part.part.now) left right joint out);
      caps = caps-both c.args.s.now.size c.args.chunk
          (IsRuledOut c.args.s.now (assignment_of c.args.a.now) c.args.hidden c.args.w.0 c.args.q (form_of c.args.f.now))
          (IsRuledOut c.args.s.now (assignment_of c.args.a.now) c.loop-part.inner c.args.w.0 c.loop-part.side right)
          c.loop-part.caps c.leaf_cap-in-Exists-And.result c.and-caps.result c.loop-part.invariant.caps
          c.leaf_cap-in-Exists-And.ensures
          (λ x out. c.loop-part.invariant.into x
          (joint-right c.args.s.now (assignment_of c.args.a.now) c.loop-part.inner c.args.w.0 x c.loop-part.side
          (form_of c.loop-part.part.now) left right joint out)) c.and-caps.ensures;
    }

pub loop-part-preserved-in-loop-part : goal.loop-part-preserved-in-loop-part
loop-part-preserved-in-loop-part c =
    let inner : Form = form_of c.deref-part-in-Exists-Exists.result.now
    in let y : ℕ = c.in-Exists-Exists-1.y.now.0
    in let under : form_of c.loop-part.part.now ≡ quantified c.loop-part.side y inner =
    elim c.in-Exists-Exists-1.branch [
      | in-Exists-Exists w ↦ search rules
      | in-Exists-Exists-2 w ↦ search rules
    ]
    in record {
      over = (formula-under c.loop-part.side (arities_of c.args.s.now) y inner
          (subst (λ k. IsFormulaOver (arities_of c.args.s.now) k) under c.loop-part.invariant.over)).1;
      seen = λ v ne outside free. c.loop-part.invariant.seen v ne (c.with-inner.ensures.outside v outside).1
          (subst (λ k. IsFree v k) (sym under) (free-over c.loop-part.side y v inner
          ((c.with-inner.ensures.outside v outside).0, free)));
      into = λ x out. c.loop-part.invariant.into x (subst
          (λ k. IsRuledOut c.args.s.now (assignment_of c.args.a.now) c.loop-part.inner c.args.w.0 c.loop-part.side k x)
          (sym under)
          (out-under c.args.s.now (assignment_of c.args.a.now) c.loop-part.inner c.args.w.0 x c.loop-part.side y inner
          c.with-inner.result (λ e. c.if-y-w.false (sym e)) c.with-inner.ensures.outside out));
      caps = c.loop-part.invariant.caps;
    }
