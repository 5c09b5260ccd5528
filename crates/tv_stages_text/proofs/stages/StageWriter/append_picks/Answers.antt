use Rattle.std.proofs.Common.{arith}
use Rattle.tv_stages_text.specs.Texts.{pick_text}
use Rattle.tv_stages_text.proofs.Turns.{each_turn}
use Rattle.tv_stages_text.proofs.stages.StageWriter.append_picks.Goals as goal

pub loop-k-preserved : goal.loop-k-preserved
loop-k-preserved c =
    each_turn (λ _ pick. pick_text c.args.self.now pick) c.args.picks.now c.loop-k.k c.index-picks-k.result
    c.loop-k.out.items c.append_pick.new.out.items _
    (omega (arith, c.loop-k-test.true, c.loop-k.auto.k-end)) c.index-picks-k.is
    c.in_ok-append_pick.ensures c.loop-k.invariant
