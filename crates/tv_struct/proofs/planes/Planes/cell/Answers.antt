use Rattle.std.proofs.Common.{◌<◌, ◌%◌, ◌∙◌, get_or, subst, sym, arith}
use Rattle.tv_struct.proofs.HeldLaws.{cells_room, now_listed, now_row, now_cell, now_columns}
use Rattle.tv_struct.proofs.planes.Planes.cell.Goals as goal

pub start-start-requires-clause-predicate : goal.start-start-requires-clause-predicate
start-start-requires-clause-predicate c = now_listed c.self.inside.layout c.self.inside.words.words c.args.self.now c.self.view_is c.self.invariant.table c.args.p.0 c.requires.predicate

pub start-start-requires-clause-row : goal.start-start-requires-clause-row
start-start-requires-clause-row c = now_row c.self.inside.layout c.self.inside.words.words c.args.self.now c.self.view_is c.self.invariant.table c.args.p.0 c.requires.predicate c.args.row c.requires.row

pub get-requires-clause-word : goal.get-requires-clause-word
get-requires-clause-word c =
    (now_cell c.self.inside.layout c.self.inside.words.words c.args.self.now c.self.view_is c.self.invariant.table c.args.p.0 c.requires.predicate c.args.row c.requires.row c.args.column
    c.start-start.result c.requires.column c.start-start.ensures).0

pub get-requires-clause-room : goal.get-requires-clause-room
get-requires-clause-room c =
    subst (λ n. c.args.column % 64 < n) (sym c.self.invariant.room)
    (cells_room c.self.inside.layout.size (get_or c.self.inside.layout.arities c.args.p.0 0) c.args.column
    (omega (arith, c.requires.column, now_columns c.self.inside.layout c.self.inside.words.words c.args.self.now c.self.view_is c.self.invariant.table c.args.p.0 c.requires.predicate c.args.row c.requires.row)))

pub returns : goal.returns
returns c =
    c.get.ensures
    ∙ (now_cell c.self.inside.layout c.self.inside.words.words c.args.self.now c.self.view_is c.self.invariant.table c.args.p.0 c.requires.predicate c.args.row c.requires.row c.args.column
    c.start-start.result c.requires.column c.start-start.ensures).1
