use Rattle.tv_focus.proofs.Lines.{rest-known}
use Rattle.tv_focus.proofs.known.+are_pairs_known.Goals as goal

pub returns-then-is_definite : goal.returns-then-is_definite
returns-then-is_definite t c holds u lt =
    rest-known c.args.s.now c.args.p.0 c.args.place u c.args.anchors.now c.line.result c.in-len1-up.len_at_least
    c.line.ensures lt (c.is_definite.ensures c.if-is_definite.true) (c.are_pairs_known.ensures holds u lt)
