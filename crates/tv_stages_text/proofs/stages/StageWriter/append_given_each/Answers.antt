use Rattle.std.proofs.Common.{arith}
use Rattle.tv_stages_text.specs.Texts.{given_text}
use Rattle.tv_stages_text.proofs.Turns.{each_turn}
use Rattle.tv_stages_text.proofs.stages.StageWriter.append_given_each.Goals as goal

pub loop-number-preserved : goal.loop-number-preserved
loop-number-preserved c =
    each_turn (given_text c.args.self.now) c.args.given.now c.loop-number.number c.index-given-number.result
    c.loop-number.out.items c.append_given.new.out.items _
    (omega (arith, c.loop-number-test.true, c.loop-number.auto.number-end)) c.index-given-number.is
    c.in_ok-append_given.ensures c.loop-number.invariant
