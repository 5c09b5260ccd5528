use Rattle.std.proofs.Common.{◌∙◌}
use Rattle.tv_struct.specs.TupleForm.{tuple_of}
use Rattle.tv_structure_form.proofs.TableLaws.{HasEntry-lt, entry_row-lt, entry_column-lt}
use Rattle.tv_struct.proofs.planes.PlanesTable.set.Goals as goal

pub put_cell-requires-clause-predicate : goal.put_cell-requires-clause-predicate
put_cell-requires-clause-predicate c = HasEntry-lt c.args.self.now c.args.p.0 (tuple_of c.args.t) c.requires

pub put_cell-requires-clause-row : goal.put_cell-requires-clause-row
put_cell-requires-clause-row c =
    rw c.place-row.ensures.row (entry_row-lt c.args.self.now c.args.p.0 (tuple_of c.args.t) c.size.ensures.one_value_each c.requires)

pub put_cell-requires-clause-column : goal.put_cell-requires-clause-column
put_cell-requires-clause-column c =
    rw (c.place-row.ensures.row, c.place-row.ensures.column)
    (entry_column-lt c.args.self.now c.args.p.0 (tuple_of c.args.t) c.size.ensures.one_value_each c.requires)

pub returns : goal.returns
returns c = c.put_cell.ensures.value ∙ (rw (c.place-row.ensures.row, c.place-row.ensures.column))
