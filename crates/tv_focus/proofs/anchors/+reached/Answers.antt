use Rattle.std.proofs.Common.{◌∙◌, ap, get_or, length, sym}
use Rattle.tv_focus.proofs.Lines.{length-line, reached-rest}
use Rattle.tv_focus.proofs.anchors.+reached.Goals as goal

pub or-requires : goal.or-requires
or-requires t c =
    ap length c.line.ensures ∙ length-line c.args.s.now c.args.p.0 c.args.place (get_or c.args.anchors.now 0 0)
    ∙ sym c.reached.ensures.long

pub returns-in-len1-up : goal.returns-in-len1-up
returns-in-len1-up t c =
    reached-rest c.args.s.now c.args.p.0 c.args.place c.args.anchors.now c.line.result c.reached.result c.or.result
    c.in-len1-up.len_at_least c.line.ensures c.reached.ensures c.or.ensures
