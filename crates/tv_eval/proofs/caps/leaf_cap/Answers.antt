use Rattle.tv_model.specs.Form.{form_of}
use Rattle.tv_eval.specs.AssignmentForm.{assignment_of}
use Rattle.tv_eval.specs.Caps.{IsRuledOut}
use Rattle.tv_eval.proofs.Capping.{caps-none}
use Rattle.tv_eval.proofs.caps.leaf_cap.Goals as goal

pub returns-then-not-is_literal_without : goal.returns-then-not-is_literal_without
returns-then-not-is_literal_without c =
    caps-none c.args.s.now.size c.args.chunk
    (IsRuledOut c.args.s.now (assignment_of c.args.a.now) c.args.hidden.now c.args.w.0 c.args.q (form_of c.args.f.now))
    c.of.result c.of.ensures
