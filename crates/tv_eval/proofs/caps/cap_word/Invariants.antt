-- what rules the part out rules the formula out
use Rattle.std.proofs.Common.{ℕ}
use Rattle.tv_model.specs.Form.{form_of, height}
use Rattle.tv_model.specs.Valid.{IsFormulaOver}
use Rattle.tv_structure_form.specs.StructureForm.{arities_of}
use Rattle.tv_eval.specs.AssignmentForm.{assignment_of}
use Rattle.tv_eval.specs.Caps.{AreSeen, IsCapWord, IsRuledOut}
use Rattle.tv_eval.proofs.caps.cap_word.Given as goal

abbrev pub invariant-loop-part : goal.invariant-loop-part
invariant-loop-part l = record {
  over : IsFormulaOver (arities_of l.s) (form_of l.part);
  seen : AreSeen l.s.size l.a l.inner l.w.0 (form_of l.part);
  into : (x : ℕ) → IsRuledOut l.s (assignment_of l.a) l.inner l.w.0 l.side (form_of l.part) x
      → IsRuledOut l.s (assignment_of l.a) l.fn.hidden l.w.0 l.fn.q (form_of l.fn.f) x;
  caps : IsCapWord l.s.size l.chunk (IsRuledOut l.s (assignment_of l.a) l.fn.hidden l.w.0 l.fn.q (form_of l.fn.f)) l.caps;
}

abbrev pub decreases-loop-part : goal.decreases-loop-part
decreases-loop-part l = height (form_of l.part)
