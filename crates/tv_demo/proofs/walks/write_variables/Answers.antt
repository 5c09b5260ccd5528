use Rattle.std.proofs.Common.{◌+◌, codes}
use Rattle.tv_demo.specs.Texts.{numbered, variables_text}
use Rattle.tv_demo.proofs.Turns.{one_more, next_variable}
use Rattle.tv_demo.proofs.walks.write_variables.Goals as goal

pub loop-i-preserved : goal.loop-i-preserved
loop-i-preserved c =
    one_more variables_text (λ i. numbered (codes ", y") (i + 1)) next_variable c.loop-i.i
    c.args.out.now.items c.loop-i.out.items _ c.loop-i.invariant c.in_ok-write_numbered.ensures
