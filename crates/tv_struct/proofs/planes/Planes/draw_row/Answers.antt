use Rattle.std.proofs.Common.{◌≡◌, ◌≢◌, ◌∙◌, length, set, ap, sym, arith}
use Rattle.tv_kleene.specs.declared.K3.{K3}
use Rattle.tv_structure_form.specs.TableForm.{plane_at, row_in, column_count, table_with_row}
use Rattle.tv_struct.proofs.PlaneDraws.{arity_read, no_row, one_value, with_arguments}
use Rattle.tv_struct.proofs.RowLaws.{row_long}
use Rattle.tv_struct.proofs.planes.Planes.draw_row.Goals as goal

pub returns-then-row_total-from-clause-value : goal.returns-then-row_total-from-clause-value
returns-then-row_total-from-clause-value c =
    c.put_row.ensures.value
    ∙ ap (table_with_row c.args.self.now c.args.p.0 c.args.row)
    (c.of.ensures
    ∙ no_row (plane_at c.args.source.now c.args.p.0) c.args.drawing.now.origins c.args.from c.column_count.result
    (omega (arith, c.if-row_total-from.true, c.row_total.ensures.value))
    (c.column_count.ensures
    ∙ ap (λ n. column_count n c.arity-arity.result) (c.size-then-row_total-from.ensures.size ∙ c.requires.size)
    ∙ ap (column_count (length c.args.drawing.now.origins))
    (arity_read c.args.source.now c.args.p.0 c.arity-arity.result c.requires.source c.arity-arity.ensures.value)))

pub returns-then-arity-eq0-clause-value : goal.returns-then-arity-eq0-clause-value
returns-then-arity-eq0-clause-value c =
    let none : (plane_at c.args.source.now c.args.p.0).arity ≡ 0
    = sym (arity_read c.args.source.now c.args.p.0 c.arity-arity.result c.requires.source c.arity-arity.ensures.value) ∙ c.if-arity-eq0.true
    in let long : length (row_in (plane_at c.args.self.now c.args.p.0) c.args.row) ≡ 1
    = row_long c.args.self.now c.args.p.0 c.args.row c.requires.table c.requires.predicate c.requires.row
    ∙ ap (column_count c.args.self.now.size) (c.requires.arity ∙ none)
    in c.put_cell.ensures.value
    ∙ ap (table_with_row c.args.self.now c.args.p.0 c.args.row)
    (ap (λ (k : K3). set (row_in (plane_at c.args.self.now c.args.p.0) c.args.row) 0 k) c.cell.ensures
    ∙ one_value (row_in (plane_at c.args.self.now c.args.p.0) c.args.row) (row_in (plane_at c.args.source.now c.args.p.0) c.args.from)
    (plane_at c.args.source.now c.args.p.0).arity c.args.drawing.now.origins none long)

pub returns-else-arity-eq0-clause-value : goal.returns-else-arity-eq0-clause-value
returns-else-arity-eq0-clause-value c =
    let some : (plane_at c.args.source.now c.args.p.0).arity ≢ 0
    = λ e.
    c.if-arity-eq0.false
    (arity_read c.args.source.now c.args.p.0 c.arity-arity.result c.requires.source c.arity-arity.ensures.value ∙ e)
    in c.draw_words.ensures.value
    ∙ ap (table_with_row c.args.self.now c.args.p.0 c.args.row)
    (with_arguments (row_in (plane_at c.args.source.now c.args.p.0) c.args.from) (plane_at c.args.source.now c.args.p.0).arity
    c.args.drawing.now.origins some)
