use Rattle.std.proofs.Common.{arith}
use Rattle.tv_stages_text.specs.Texts.{at_hand_text}
use Rattle.tv_stages_text.proofs.Turns.{each_turn}
use Rattle.tv_stages_text.proofs.stages.StageWriter.append_focused.Goals as goal

pub loop-number-preserved : goal.loop-number-preserved
loop-number-preserved c =
    each_turn (at_hand_text c.args.self.now) c.args.focused.now c.loop-number.number c.index-focused-number.result
    c.loop-number.out.items c.append_at_hand.new.out.items _
    (omega (arith, c.loop-number-test.true, c.loop-number.auto.number-end)) c.index-focused-number.is
    c.in_ok-append_at_hand.ensures c.loop-number.invariant
