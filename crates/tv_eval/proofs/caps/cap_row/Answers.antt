use Rattle.tv_model.specs.Form.{form_of}
use Rattle.tv_eval.specs.AssignmentForm.{assignment_of}
use Rattle.tv_eval.specs.Caps.{IsRuledOut}
use Rattle.tv_eval.proofs.Capping.{caps-next}
use Rattle.tv_eval.proofs.caps.cap_row.Goals as goal

pub loop-chunk-preserved : goal.loop-chunk-preserved
loop-chunk-preserved c =
    caps-next c.args.s.now.size c.loop-chunk.chunk
    (IsRuledOut c.args.s.now (assignment_of c.args.a.now) c.args.hidden c.args.w.0 c.args.q (form_of c.args.f.now))
    c.loop-chunk.caps c.put_word.new.self c.cap_word.result c.loop-chunk.invariant c.cap_word.ensures
    c.put_word.ensures.size c.put_word.ensures.values c.put_word.ensures.others
