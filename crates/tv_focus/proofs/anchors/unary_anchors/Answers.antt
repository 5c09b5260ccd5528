use Rattle.std.proofs.Common.{◌∙◌, ap, length}
use Rattle.tv_struct.proofs.Library.{length-unary_row}
use Rattle.tv_focus.proofs.Lines.{ordinary_unary}
use Rattle.tv_focus.proofs.anchors.unary_anchors.Goals as goal

pub ordinary_in-requires : goal.ordinary_in-requires
ordinary_in-requires c = ap length c.unary_row.ensures ∙ length-unary_row c.args.s.now c.args.p.0

pub returns : goal.returns
returns c =
    rw (← ordinary_unary c.args.s.now c.args.p.0 c.unary_row.result c.unary_row.ensures) c.ordinary_in.ensures
