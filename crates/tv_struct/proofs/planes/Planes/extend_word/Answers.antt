use Rattle.std.proofs.Common.{◌+◌, ◌∙◌, get_or, ap, arith}
use Rattle.std.proofs.lemmas.List.{length-map}
use Rattle.std.proofs.lemmas.List.FromFn.{length-range_with_len}
use Rattle.std.specs.List.{range_with_len}
use Rattle.tv_kleene.specs.declared.K3.TheVariants.{No}
use Rattle.tv_row.specs.Drawing.{drawn_from, all_and_next}
use Rattle.tv_row.specs.Places.{value_in}
use Rattle.tv_row.proofs.DrawnRuns.{drawn_reads}
use Rattle.tv_structure_form.specs.TableForm.{TableForm, plane_at, row_in, selected}
use Rattle.tv_struct.proofs.HeldLaws.{IsTable-held, now_listed, now_row, now_read, now_seen, now_placed}
use Rattle.tv_struct.proofs.HeldLaws.{now_put_word, narrow_cells}
use Rattle.tv_struct.proofs.planes.Planes.extend_word.Goals as goal

pub start-place-requires-clause-predicate : goal.start-place-requires-clause-predicate
start-place-requires-clause-predicate c = now_listed c.self.inside.layout c.self.inside.words.words c.args.self.now c.self.view_is c.self.invariant.table c.args.p.0 c.requires.predicate

pub start-place-requires-clause-row : goal.start-place-requires-clause-row
start-place-requires-clause-row c = now_row c.self.inside.layout c.self.inside.words.words c.args.self.now c.self.view_is c.self.invariant.table c.args.p.0 c.requires.predicate c.args.row c.requires.row

pub start-origin-requires-clause-predicate : goal.start-origin-requires-clause-predicate
start-origin-requires-clause-predicate c = now_listed c.source.inside.layout c.source.inside.words.words c.args.source.now c.source.view_is c.source.invariant.table c.args.p.0 c.requires.source

pub start-origin-requires-clause-row : goal.start-origin-requires-clause-row
start-origin-requires-clause-row c = now_row c.source.inside.layout c.source.inside.words.words c.args.source.now c.source.view_is c.source.invariant.table c.args.p.0 c.requires.source c.args.from c.requires.from

pub extend-requires-clause-place : goal.extend-requires-clause-place
extend-requires-clause-place c = now_placed c.self.inside.layout c.self.inside.words.words c.args.self.now c.self.view_is c.self.invariant.table c.args.p.0 c.requires.predicate c.args.row c.requires.row c.start-place.result c.start-place.ensures

pub extend-requires-clause-from : goal.extend-requires-clause-from
extend-requires-clause-from c = now_placed c.source.inside.layout c.source.inside.words.words c.args.source.now c.source.view_is c.source.invariant.table c.args.p.0 c.requires.source c.args.from c.requires.from c.start-origin.result c.start-origin.ensures

pub extend-requires-clause-room : goal.extend-requires-clause-room
extend-requires-clause-room c =
    omega (
      arith,
      c.size-size.ensures.size,
      narrow_cells c.self.inside.layout.size (get_or c.self.inside.layout.arities c.args.p.0 0) c.self.inside.words.cells
          (c.args.source.now.size + 1) (omega (arith, c.requires.narrow.1, ap (λ (t : TableForm). t.size) c.self.view_is)) c.self.invariant.room
          (c.requires.size ∙ now_seen c.self.inside.layout c.self.inside.words.words c.args.self.now c.self.view_is c.self.invariant.table c.args.p.0 c.requires.predicate),
    )

pub extend-requires-clause-columns : goal.extend-requires-clause-columns
extend-requires-clause-columns c =
    omega (
      arith,
      c.size-size.ensures.size,
      narrow_cells c.source.inside.layout.size (get_or c.source.inside.layout.arities c.args.p.0 0) c.source.inside.words.cells
          c.args.source.now.size (omega (arith, c.requires.narrow_source, ap (λ (t : TableForm). t.size) c.source.view_is)) c.source.invariant.room
          (c.requires.columns ∙ now_seen c.source.inside.layout c.source.inside.words.words c.args.source.now c.source.view_is c.source.invariant.table c.args.p.0 c.requires.source),
    )

pub invariant_of-self : goal.invariant_of-self
invariant_of-self c = record {
  table = (now_put_word c.self.inside.layout c.self.inside.words.words c.args.self.now c.self.view_is c.self.invariant.table c.args.p.0 c.requires.predicate c.args.row c.requires.row c.start-place.result c.start-place.ensures
      c.extend.new.self.words
      (selected No (row_in (plane_at c.args.source.now c.args.p.0) c.args.from) (range_with_len 0 (c.args.source.now.size + 1)))
      c.requires.narrow.0 c.requires.narrow.1
      (length-map (range_with_len 0 (c.args.source.now.size + 1)) (λ place. get_or (row_in (plane_at c.args.source.now c.args.p.0) c.args.from) place No)
      ∙ length-range_with_len 0 (c.args.source.now.size + 1) ∙ c.requires.size)
      (λ column lt.
      c.extend.ensures.values column lt
      ∙ ap (λ n. drawn_from (value_in c.source.inside.words.words c.start-origin.result) (all_and_next n) column) c.size-size.ensures.size
      ∙ drawn_reads c.source.inside.words.words c.start-origin.result (all_and_next c.args.source.now.size)
      (row_in (plane_at c.args.source.now c.args.p.0) c.args.from)
      (now_read c.source.inside.layout c.source.inside.words.words c.args.source.now c.source.view_is c.source.invariant.table c.args.p.0 c.requires.source c.args.from c.requires.from c.args.source.now.size c.start-origin.result (c.requires.columns ∙ now_seen c.source.inside.layout c.source.inside.words.words c.args.source.now c.source.view_is c.source.invariant.table c.args.p.0 c.requires.source) c.start-origin.ensures).is
      column)
      c.extend.ensures.others c.extend.ensures.length).holds;
  room = c.extend.ensures.cells ∙ c.self.invariant.room;
}

pub returns-clause-value : goal.returns-clause-value
returns-clause-value c =
    (now_put_word c.self.inside.layout c.self.inside.words.words c.args.self.now c.self.view_is c.self.invariant.table c.args.p.0 c.requires.predicate c.args.row c.requires.row c.start-place.result c.start-place.ensures
    c.extend.new.self.words
    (selected No (row_in (plane_at c.args.source.now c.args.p.0) c.args.from) (range_with_len 0 (c.args.source.now.size + 1)))
    c.requires.narrow.0 c.requires.narrow.1
    (length-map (range_with_len 0 (c.args.source.now.size + 1)) (λ place. get_or (row_in (plane_at c.args.source.now c.args.p.0) c.args.from) place No)
    ∙ length-range_with_len 0 (c.args.source.now.size + 1) ∙ c.requires.size)
    (λ column lt.
    c.extend.ensures.values column lt
    ∙ ap (λ n. drawn_from (value_in c.source.inside.words.words c.start-origin.result) (all_and_next n) column) c.size-size.ensures.size
    ∙ drawn_reads c.source.inside.words.words c.start-origin.result (all_and_next c.args.source.now.size)
    (row_in (plane_at c.args.source.now c.args.p.0) c.args.from)
    (now_read c.source.inside.layout c.source.inside.words.words c.args.source.now c.source.view_is c.source.invariant.table c.args.p.0 c.requires.source c.args.from c.requires.from c.args.source.now.size c.start-origin.result (c.requires.columns ∙ now_seen c.source.inside.layout c.source.inside.words.words c.args.source.now c.source.view_is c.source.invariant.table c.args.p.0 c.requires.source) c.start-origin.ensures).is
    column)
    c.extend.ensures.others c.extend.ensures.length).is

pub returns-clause-kept : goal.returns-clause-kept
returns-clause-kept c = IsTable-held c.self.inside.layout c.extend.new.self.words c.self.invariant.table.layout
