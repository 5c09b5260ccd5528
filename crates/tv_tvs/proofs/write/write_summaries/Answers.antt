use Rattle.std.proofs.Common.{◌≡◌, ◌++◌, ◌∙◌, ap, length, subst}
use Rattle.std.specs.Prelude.{OnOk, codes}
use Rattle.tv_tvs.specs.Rows.{single_items}
use Rattle.tv_tvs.proofs.PredLines.{summaries_line}
use Rattle.tv_tvs.proofs.RowTexts.{singles_text, line_ended}
use Rattle.tv_tvs.proofs.write.write_summaries.Goals as goal

pub returns : goal.returns
returns c =
    let row = c.summary_row.result
    in subst (λ t. OnOk c.end_line.result (c.end_line.new.out ≡ c.args.out.now ++ t))
    (summaries_line c.args.s.now row c.summary_row.ensures)
    (line_ended c.args.out.now c.put_row.new.out (codes "sm") (single_items row) c.len-start.result c.len-from.result
    (λ t. OnOk c.end_line.result (c.end_line.new.out ≡ t)) c.len-start.ensures
    (c.len-from.ensures ∙ ap length c.in_ok-put_front.ensures)
    (c.in_ok-put_row.ensures ∙ (λ i. c.in_ok-put_front.ensures i ++ singles_text row i)) c.end_line.ensures.none
    c.end_line.ensures.some)
