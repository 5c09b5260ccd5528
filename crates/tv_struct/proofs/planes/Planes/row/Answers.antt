use Rattle.std.proofs.Common.{ℕ, ◌≡◌, ◌∙◌, length, get_or, ap, sym}
use Rattle.tv_structure_form.specs.TableForm.{TableForm, plane_at, column_count}
use Rattle.tv_struct.proofs.HeldLaws.{now_listed, now_arity, now_row, now_columns, now_read, narrow_row}
use Rattle.tv_struct.proofs.planes.Planes.row.Goals as goal

pub arity-requires : goal.arity-requires
arity-requires c = now_listed c.self.inside.layout c.self.inside.words.words c.args.self.now c.self.view_is c.self.invariant.table c.args.p.0 c.requires.predicate

pub start-requires-clause-predicate : goal.start-requires-clause-predicate
start-requires-clause-predicate c = now_listed c.self.inside.layout c.self.inside.words.words c.args.self.now c.self.view_is c.self.invariant.table c.args.p.0 c.requires.predicate

pub start-requires-clause-row : goal.start-requires-clause-row
start-requires-clause-row c = now_row c.self.inside.layout c.self.inside.words.words c.args.self.now c.self.view_is c.self.invariant.table c.args.p.0 c.requires.predicate c.args.row c.requires.row

columns_are : (size other arity got columns : ℕ) → size ≡ other → arity ≡ got → columns ≡ column_count size arity → columns ≡ column_count other got
columns_are size other arity got columns e f is = is ∙ ap (λ n. column_count n arity) e ∙ ap (column_count other) f

pub row-requires-clause-words : goal.row-requires-clause-words
row-requires-clause-words c =
    (now_read c.self.inside.layout c.self.inside.words.words c.args.self.now c.self.view_is c.self.invariant.table c.args.p.0 c.requires.predicate c.args.row c.requires.row c.column_count-columns.result c.start.result
    (columns_are _ _ _ _ _ c.size.ensures.size c.arity.ensures c.column_count-columns.ensures) c.start.ensures).room

pub row-requires-clause-room : goal.row-requires-clause-room
row-requires-clause-room c =
    narrow_row c.self.inside.layout.size (get_or c.self.inside.layout.arities c.args.p.0 0) c.self.inside.words.cells
    c.column_count-columns.result c.self.invariant.room
    (columns_are _ _ _ _ _ c.size.ensures.size c.arity.ensures c.column_count-columns.ensures)

pub row-requires-clause-unused : goal.row-requires-clause-unused
row-requires-clause-unused c =
    (now_read c.self.inside.layout c.self.inside.words.words c.args.self.now c.self.view_is c.self.invariant.table c.args.p.0 c.requires.predicate c.args.row c.requires.row c.column_count-columns.result c.start.result
    (columns_are _ _ _ _ _ c.size.ensures.size c.arity.ensures c.column_count-columns.ensures) c.start.ensures).unused

pub returns-clause-columns : goal.returns-clause-columns
returns-clause-columns c =
    ap length (c.row.ensures
    ∙ (now_read c.self.inside.layout c.self.inside.words.words c.args.self.now c.self.view_is c.self.invariant.table c.args.p.0 c.requires.predicate c.args.row c.requires.row c.column_count-columns.result c.start.result
    (columns_are _ _ _ _ _ c.size.ensures.size c.arity.ensures c.column_count-columns.ensures) c.start.ensures).is)
    ∙ now_columns c.self.inside.layout c.self.inside.words.words c.args.self.now c.self.view_is c.self.invariant.table c.args.p.0 c.requires.predicate c.args.row c.requires.row
    ∙ ap (column_count c.self.inside.layout.size) (sym (now_arity c.self.inside.layout c.self.inside.words.words c.args.self.now c.self.view_is c.self.invariant.table c.args.p.0 c.requires.predicate))
    ∙ ap (λ (t : TableForm). column_count t.size (plane_at c.args.self.now c.args.p.0).arity) c.self.view_is

pub returns-clause-value : goal.returns-clause-value
returns-clause-value c =
    c.row.ensures
    ∙ (now_read c.self.inside.layout c.self.inside.words.words c.args.self.now c.self.view_is c.self.invariant.table c.args.p.0 c.requires.predicate c.args.row c.requires.row c.column_count-columns.result c.start.result
    (columns_are _ _ _ _ _ c.size.ensures.size c.arity.ensures c.column_count-columns.ensures) c.start.ensures).is
