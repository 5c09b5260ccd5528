use Rattle.std.proofs.Common.{◌∙◌, length, get_or, ap, sym}
use Rattle.tv_structure_form.specs.TableForm.{TableForm, plane_at, column_count}
use Rattle.tv_struct.proofs.HeldLaws.{IsTable-held, now_listed, now_arity, now_row, now_read, now_put}
use Rattle.tv_struct.proofs.HeldLaws.{now_seen, values_room}
use Rattle.tv_struct.proofs.planes.Planes.put_row.Goals as goal

pub start-start-requires-clause-predicate : goal.start-start-requires-clause-predicate
start-start-requires-clause-predicate c = now_listed c.self.inside.layout c.self.inside.words.words c.args.self.now c.self.view_is c.self.invariant.table c.args.p.0 c.requires.predicate

pub start-start-requires-clause-row : goal.start-start-requires-clause-row
start-start-requires-clause-row c = now_row c.self.inside.layout c.self.inside.words.words c.args.self.now c.self.view_is c.self.invariant.table c.args.p.0 c.requires.predicate c.args.row c.requires.row

pub put_row-requires-clause-words : goal.put_row-requires-clause-words
put_row-requires-clause-words c =
    (now_read c.self.inside.layout c.self.inside.words.words c.args.self.now c.self.view_is c.self.invariant.table c.args.p.0 c.requires.predicate c.args.row c.requires.row (length c.args.values.now) c.start-start.result
    (c.requires.columns ∙ ap (λ n. column_count n (plane_at c.args.self.now c.args.p.0).arity) (sym (ap (λ (t : TableForm). t.size) c.self.view_is))
    ∙ ap (column_count c.self.inside.layout.size) (now_arity c.self.inside.layout c.self.inside.words.words c.args.self.now c.self.view_is c.self.invariant.table c.args.p.0 c.requires.predicate)) c.start-start.ensures).room

pub put_row-requires-clause-room : goal.put_row-requires-clause-room
put_row-requires-clause-room c =
    values_room c.self.inside.layout.size (get_or c.self.inside.layout.arities c.args.p.0 0) c.self.inside.words.cells (length c.args.values.now) c.self.invariant.room
    (c.requires.columns ∙ now_seen c.self.inside.layout c.self.inside.words.words c.args.self.now c.self.view_is c.self.invariant.table c.args.p.0 c.requires.predicate)

pub invariant_of-self : goal.invariant_of-self
invariant_of-self c = record {
  table = (now_put c.self.inside.layout c.self.inside.words.words c.put_row.new.self.words c.args.self.now c.self.view_is c.self.invariant.table c.args.p.0
      c.requires.predicate c.args.row c.requires.row c.args.values.now c.start-start.result c.requires.columns c.start-start.ensures
      c.put_row.ensures.values c.put_row.ensures.others c.put_row.ensures.length).holds;
  room = c.put_row.ensures.cells ∙ c.self.invariant.room;
}

pub returns-clause-value : goal.returns-clause-value
returns-clause-value c =
    (now_put c.self.inside.layout c.self.inside.words.words c.put_row.new.self.words c.args.self.now c.self.view_is c.self.invariant.table c.args.p.0
    c.requires.predicate c.args.row c.requires.row c.args.values.now c.start-start.result c.requires.columns c.start-start.ensures
    c.put_row.ensures.values c.put_row.ensures.others c.put_row.ensures.length).is

pub returns-clause-kept : goal.returns-clause-kept
returns-clause-kept c = IsTable-held c.self.inside.layout c.put_row.new.self.words c.self.invariant.table.layout
