use Rattle.std.proofs.Common.{◌≡◌, ◌++◌, ◌∙◌, refl, ap, sym, arith, length, map}
use Rattle.std.specs.Prelude.{OnOk}
use Rattle.std.proofs.lemmas.List.{append-nil}
use Rattle.tv_structure_form.specs.StructureForm.{value_at}
use Rattle.tv_struct.specs.StructureRows.{row_at}
use Rattle.tv_tvs.specs.Canonical.{tuples, written_items, item_text}
use Rattle.tv_tvs.specs.Rows.{ended_texts}
use Rattle.tv_tvs.proofs.RowTexts.{pairs_turn, rows_end, line_ended}
use Rattle.tv_tvs.proofs.write.write_pairs.Goals as goal

pub loop-u-init : goal.loop-u-init
loop-u-init c = sym (append-nil c.put_front.new.out)

pub loop-u-preserved : goal.loop-u-preserved
loop-u-preserved c =
    c.in_ok-put_pairs.ensures
    ∙ pairs_turn (value_at c.args.s.now c.args.p.0) c.args.s.now.size c.loop-u.u c.put_front.new.out c.loop-u.out
    (row_at c.args.s.now c.args.p.0 c.loop-u.u) refl c.loop-u.invariant

pub returns : goal.returns
returns c =
    let value = value_at c.args.s.now c.args.p.0
    in let items = written_items value (tuples 2 c.args.s.now.size)
    in let all : c.loop-u.u ≡ c.args.s.now.size
    = omega (arith, c.loop-u-test.false, c.loop-u.auto.u-end, c.size-u-end.ensures.size)
    in line_ended c.args.out.now c.loop-u.out c.args.name.now items c.len-start.result
    c.len-from.result (λ t. OnOk c.end_line.result (c.end_line.new.out ≡ t)) c.len-start.ensures
    (c.len-from.ensures ∙ ap length c.in_ok-put_front.ensures)
    (rows_end value c.args.s.now.size c.loop-u.u c.put_front.new.out c.loop-u.out all c.loop-u.invariant
    ∙ ap (λ t. t ++ ended_texts (map item_text items)) c.in_ok-put_front.ensures)
    c.end_line.ensures.none c.end_line.ensures.some
