use Rattle.std.proofs.Common.{arith}
use Rattle.tv_stages_text.specs.Texts.{turn_text}
use Rattle.tv_stages_text.proofs.Turns.{each_turn}
use Rattle.tv_stages_text.proofs.stages.StageWriter.append_rows.Goals as goal

pub loop-k-preserved : goal.loop-k-preserved
loop-k-preserved c =
    each_turn (λ _ row. turn_text c.args.self.now row) c.args.rows.now c.loop-k.k c.index-rows-k.result
    c.loop-k.out.items c.append_row.new.out.items _
    (omega (arith, c.loop-k-test.true, c.loop-k.auto.k-end)) c.index-rows-k.is
    c.in_ok-append_row.ensures c.loop-k.invariant
