use Rattle.std.proofs.Common.{ap, arith, length}
use Rattle.tv_work.proofs.Lines.{lines-all}
use Rattle.tv_work.proofs.told.Told.lines.Goals as goal

pub returns : goal.returns
returns c =
    lines-all c.args.self.now c.loop-edge.edge c.loop-edge.lines c.loop-edge.invariant
    (omega (arith, c.loop-edge-test.false, c.len-edge-end.ensures, ap length c.self.view_is))
