use Rattle.tv_struct.proofs.HeldLaws.{cells_room, IsTable-held, now_listed, now_row, now_cell, now_columns}
use Rattle.tv_struct.proofs.HeldLaws.{now_put_cell}
use Rattle.std.proofs.Common.{◌<◌, ◌%◌, ◌∙◌, get_or, ap, subst, sym, arith}
use Rattle.tv_row.specs.Packed.{PackedForm}
use Rattle.tv_struct.specs.LayoutForm.{HoldsPackedTable, table_held}
use Rattle.tv_struct.proofs.planes.Planes.put_cell.Goals as goal

pub start-start-requires-clause-predicate : goal.start-start-requires-clause-predicate
start-start-requires-clause-predicate c = now_listed c.self.inside.layout c.self.inside.words.words c.args.self.now c.self.view_is c.self.invariant.table c.args.p.0 c.requires.predicate

pub start-start-requires-clause-row : goal.start-start-requires-clause-row
start-start-requires-clause-row c = now_row c.self.inside.layout c.self.inside.words.words c.args.self.now c.self.view_is c.self.invariant.table c.args.p.0 c.requires.predicate c.args.row c.requires.row

pub put-requires-clause-word : goal.put-requires-clause-word
put-requires-clause-word c =
    (now_cell c.self.inside.layout c.self.inside.words.words c.args.self.now c.self.view_is c.self.invariant.table c.args.p.0 c.requires.predicate c.args.row c.requires.row c.args.column
    c.start-start.result c.requires.column c.start-start.ensures).0

pub put-requires-clause-room : goal.put-requires-clause-room
put-requires-clause-room c =
    subst (λ n. c.args.column % 64 < n) (sym c.self.invariant.room)
    (cells_room c.self.inside.layout.size (get_or c.self.inside.layout.arities c.args.p.0 0) c.args.column
    (omega (arith, c.requires.column, now_columns c.self.inside.layout c.self.inside.words.words c.args.self.now c.self.view_is c.self.invariant.table c.args.p.0 c.requires.predicate c.args.row c.requires.row)))

pub invariant_of-self : goal.invariant_of-self
invariant_of-self c =
    subst (HoldsPackedTable c.self.inside.layout) (sym c.put.ensures.value)
    (record {
      table = (now_put_cell c.self.inside.layout c.self.inside.words.words c.args.self.now c.self.view_is c.self.invariant.table c.args.p.0 c.requires.predicate
          c.args.row c.requires.row c.put.ensures.words c.args.column c.start-start.result c.args.k c.requires.column c.start-start.ensures).holds;
      room = c.self.invariant.room;
    })

pub returns-clause-value : goal.returns-clause-value
returns-clause-value c =
    ap (λ (f : PackedForm). table_held c.self.inside.layout f.words) c.put.ensures.value
    ∙ (now_put_cell c.self.inside.layout c.self.inside.words.words c.args.self.now c.self.view_is c.self.invariant.table c.args.p.0 c.requires.predicate
    c.args.row c.requires.row c.put.ensures.words c.args.column c.start-start.result c.args.k c.requires.column c.start-start.ensures).is

pub returns-clause-kept : goal.returns-clause-kept
returns-clause-kept c = IsTable-held c.self.inside.layout c.put.new.self.words c.self.invariant.table.layout
