-- the caps of the words so far
use Rattle.tv_model.specs.Form.{form_of}
use Rattle.tv_eval.specs.AssignmentForm.{assignment_of}
use Rattle.tv_eval.specs.Caps.{IsRuledOut}
use Rattle.tv_eval.proofs.Capping.{HasCaps}
use Rattle.tv_eval.proofs.caps.cap_row.Given as goal

abbrev pub invariant-loop-chunk : goal.invariant-loop-chunk
invariant-loop-chunk l =
    HasCaps l.s.size l.chunk (IsRuledOut l.s (assignment_of l.a) l.hidden l.w.0 l.q (form_of l.f)) l.caps
