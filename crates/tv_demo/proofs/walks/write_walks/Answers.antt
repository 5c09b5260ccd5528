use Rattle.std.proofs.Common.{◌+◌}
use Rattle.tv_demo.specs.Texts.{walk_text, walks_text}
use Rattle.tv_demo.proofs.Turns.{one_more, next_walk}
use Rattle.tv_demo.proofs.walks.write_walks.Goals as goal

pub loop-i-preserved : goal.loop-i-preserved
loop-i-preserved c =
    one_more walks_text (λ i. walk_text i (i + 1)) next_walk c.loop-i.i c.args.out.now.items
    c.loop-i.out.items _ c.loop-i.invariant c.in_ok-write_walk.ensures
