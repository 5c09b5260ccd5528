use Rattle.std.proofs.Common.{arith}
use Rattle.tv_stages_text.specs.Texts.{choice_text}
use Rattle.tv_stages_text.proofs.Turns.{each_turn}
use Rattle.tv_stages_text.proofs.stages.StageWriter.append_choices.Goals as goal

pub loop-number-preserved : goal.loop-number-preserved
loop-number-preserved c =
    each_turn (choice_text c.args.self.now) c.args.choices.now c.loop-number.number c.index-choices-number.result
    c.loop-number.out.items c.append_choice.new.out.items _
    (omega (arith, c.loop-number-test.true, c.loop-number.auto.number-end)) c.index-choices-number.is
    c.in_ok-append_choice.ensures c.loop-number.invariant
