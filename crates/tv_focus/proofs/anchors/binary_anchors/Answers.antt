use Rattle.tv_focus.proofs.Lines.{ordinary_reached}
use Rattle.tv_focus.proofs.anchors.binary_anchors.Goals as goal

pub returns : goal.returns
returns c =
    rw (← ordinary_reached c.args.s.now c.args.p.0 c.args.place c.args.anchors.now c.reached.result c.reached.ensures)
    c.ordinary_in.ensures
