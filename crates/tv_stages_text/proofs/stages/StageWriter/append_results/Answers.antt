use Rattle.std.proofs.Common.{arith}
use Rattle.tv_stages_text.specs.Texts.{result_text}
use Rattle.tv_stages_text.proofs.Turns.{each_turn}
use Rattle.tv_stages_text.proofs.stages.StageWriter.append_results.Goals as goal

pub loop-number-preserved : goal.loop-number-preserved
loop-number-preserved c =
    each_turn (result_text c.args.self.now) c.args.results.now c.loop-number.number c.index-results-number.result
    c.loop-number.out.items c.append_result.new.out.items _
    (omega (arith, c.loop-number-test.true, c.loop-number.auto.number-end)) c.index-results-number.is
    c.in_ok-append_result.ensures c.loop-number.invariant
