use Rattle.std.proofs.Common.{◌≡◌, ◌++◌, ◌∙◌, ap, length}
use Rattle.std.specs.Prelude.{OnOk}
use Rattle.tv_struct.specs.StructureRows.{unary_row}
use Rattle.tv_tvs.specs.Rows.{single_items}
use Rattle.tv_tvs.proofs.RowTexts.{singles_text, line_ended}
use Rattle.tv_tvs.proofs.write.write_found.Goals as goal

pub returns : goal.returns
returns c =
    let row = unary_row c.args.s.now c.args.p.0
    in line_ended c.args.out.now c.put_unary.new.out c.args.name.now (single_items row) c.len-start.result c.len-from.result
    (λ t. OnOk c.end_line.result (c.end_line.new.out ≡ t)) c.len-start.ensures
    (c.len-from.ensures ∙ ap length c.in_ok-put_front.ensures)
    (c.in_ok-put_unary.ensures ∙ (λ i. c.in_ok-put_front.ensures i ++ singles_text row i)) c.end_line.ensures.none
    c.end_line.ensures.some
