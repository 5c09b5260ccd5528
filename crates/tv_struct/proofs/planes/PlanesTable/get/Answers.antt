use Rattle.std.proofs.Common.{◌∙◌, sym}
use Rattle.tv_structure_form.specs.TableForm.{plane_at}
use Rattle.tv_struct.specs.TupleForm.{tuple_of}
use Rattle.tv_structure_form.proofs.TableLaws.{HasEntry-lt, HasEntry-arity, entry_row-lt, entry_column-lt}
use Rattle.tv_structure_form.proofs.StructureLaws.{value_in-fits}
use Rattle.tv_struct.proofs.planes.PlanesTable.get.Goals as goal

pub cell-requires-clause-predicate : goal.cell-requires-clause-predicate
cell-requires-clause-predicate c = HasEntry-lt c.args.self.now c.args.p.0 (tuple_of c.args.t) c.requires

pub cell-requires-clause-row : goal.cell-requires-clause-row
cell-requires-clause-row c = rw c.place-row.ensures.row (entry_row-lt c.args.self.now c.args.p.0 (tuple_of c.args.t) c.size.ensures.one_value_each c.requires)

pub cell-requires-clause-column : goal.cell-requires-clause-column
cell-requires-clause-column c =
    rw (c.place-row.ensures.row, c.place-row.ensures.column) (entry_column-lt c.args.self.now c.args.p.0 (tuple_of c.args.t) c.size.ensures.one_value_each c.requires)

pub returns : goal.returns
returns c =
    c.cell.ensures
    ∙ (rw (c.place-row.ensures.row, c.place-row.ensures.column)
    (sym (value_in-fits (plane_at c.args.self.now c.args.p.0) (tuple_of c.args.t) (HasEntry-arity c.args.self.now c.args.p.0 (tuple_of c.args.t) c.requires))))
