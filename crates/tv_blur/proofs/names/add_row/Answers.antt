use Rattle.std.proofs.Common.{sym, subst}
use Rattle.tv_blur.specs.Names.{is_abstraction}
use Rattle.tv_blur.specs.Naming.{AddsRow}
use Rattle.tv_blur.proofs.NameRows.{adds_none, adds_row}
use Rattle.tv_blur.proofs.names.add_row.Goals as goal

pub returns-in_ok-push : goal.returns-in_ok-push
returns-in_ok-push c =
    subst (AddsRow (is_abstraction c.args.pred.now) c.args.s.now c.args.p c.args.rows.now.items) (sym c.in_ok-push.ensures.items)
    (adds_row (is_abstraction c.args.pred.now) c.args.s.now c.args.p c.args.rows.now.items c.unary_row.result
    c.if-is_told.ensures c.unary_row.ensures)

pub returns-else-is_told : goal.returns-else-is_told
returns-else-is_told c =
    adds_none (is_abstraction c.args.pred.now) c.args.s.now c.args.p c.args.rows.now.items c.if-is_told.ensures
