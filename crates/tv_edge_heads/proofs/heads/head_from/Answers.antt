use Rattle.std.proofs.lemmas.Result.{IfOk-weaker}
use Rattle.tv_edge_heads.proofs.Rows.{added_feed}
use Rattle.tv_edge_heads.proofs.heads.head_from.Goals as goal

pub returns-in_default-clause-head : goal.returns-in_default-clause-head
returns-in_default-clause-head c = λ traced made stands.
    absurd (stands.1 (added_feed traced c.args.lines.now.bytes.items c.args.place made.0 (c.in_default.ensures.none traced made stands.0)))

pub returns-clause-head : goal.returns-clause-head
returns-clause-head c =
    IfOk-weaker c.head_of.result _ _
    (λ head is. λ traced made stands. (c.in-Some.at.name.now, c.in-Some.at.line, c.in-Some.ensures.found traced made, is))
    c.head_of.ensures
