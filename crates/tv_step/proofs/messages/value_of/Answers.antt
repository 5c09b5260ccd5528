use Rattle.std.proofs.Common.{sym, subst}
use Rattle.tv_model.specs.Form.{form_of}
use Rattle.tv_model.specs.Program.{message_of}
use Rattle.tv_eval.specs.ScratchForm.{HasScratchFor}
use Rattle.tv_step.specs.Setting.{form_in}
use Rattle.tv_step.proofs.Evaluating.{message-next, nobody-assigned, room-fits}
use Rattle.tv_step.proofs.messages.value_of.Goals as goal

pub eval-requires-clause-assigned : goal.eval-requires-clause-assigned
eval-requires-clause-assigned c =
    nobody-assigned (form_in c.args.x.now)
    (message_of c.args.message.now) c.s-item.result.size c.new-nobody.result
    c.requires.message

pub eval-requires-clause-fits : goal.eval-requires-clause-fits
eval-requires-clause-fits c =
    subst (λ scratch. HasScratchFor scratch (form_of c.args.message.now.cond) c.s-item.result.size)
    (sym c.loop-s.invariant.scratch)
    (room-fits c.args.x.now c.args.scratch.now
    (form_of c.args.message.now.cond) c.s-item.result.size c.requires.ready
    c.requires.room c.size.ensures.kept.table.size)

pub loop-s-preserved : goal.loop-s-preserved
loop-s-preserved c = record {
  value = message-next c.args.at_hand.now c.loop-s.s-index c.s-item.result
      (message_of c.args.message.now) c.new-nobody.result
      c.loop-s.value c.eval.result c.or-value.result c.loop-s-test.true c.s-item.is c.new-nobody.ensures
      c.loop-s.invariant.value c.eval.ensures.exact c.or-value.ensures;
  scratch = cc;
}
