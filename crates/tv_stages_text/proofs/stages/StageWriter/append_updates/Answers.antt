use Rattle.std.proofs.Common.{arith}
use Rattle.tv_stages_text.specs.Texts.{updated_text}
use Rattle.tv_stages_text.proofs.Turns.{each_turn}
use Rattle.tv_stages_text.proofs.stages.StageWriter.append_updates.Goals as goal

pub loop-number-preserved : goal.loop-number-preserved
loop-number-preserved c =
    each_turn (updated_text c.args.self.now) c.args.updates.now c.loop-number.number c.index-updates-number.result
    c.loop-number.out.items c.append_update.new.out.items _
    (omega (arith, c.loop-number-test.true, c.loop-number.auto.number-end)) c.index-updates-number.is
    c.in_ok-append_update.ensures c.loop-number.invariant
