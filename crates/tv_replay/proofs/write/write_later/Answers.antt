use Rattle.std.proofs.Common.{arith}
use Rattle.tv_replay.proofs.Later.{one_more}
use Rattle.tv_replay.proofs.write.write_later.Goals as goal

pub loop-state-preserved : goal.loop-state-preserved
loop-state-preserved c = (
  omega (arith, c.loop-state.invariant.0),
  one_more c.args.program.now c.args.later.now c.loop-state.state-index c.loop-state.number c.state-item.result _ c.loop-state.out.items _
      c.loop-state-test.true c.state-item.is c.loop-state.invariant.0 c.loop-state.invariant.1 c.in_ok-write_next.ensures,
)
