use Rattle.std.proofs.Common.{◌<◌, ◌*◌, ◌∙◌, length, get_or, ap, subst, sym, arith}
use Rattle.tv_struct.specs.LayoutForm.{LayoutForm, words_for, row_place}
use Rattle.tv_structure_form.specs.TableForm.{row_count}
use Rattle.tv_struct.specs.declared.layout.RowOffsets.{RowOffsets}
use Rattle.tv_struct.proofs.LayoutLaws.{singles_many, single_before, start_placed}
use Rattle.tv_struct.proofs.layout.Layout.start.Goals as goal

pub index-requires : goal.index-requires
index-requires c =
    let Listed : LayoutForm → Type 0 = λ l. c.args.pred < length l.arities
    in omega (
      arith,
      subst Listed (sym c.self.view_is) c.requires.predicate,
      singles_many c.self.inside.size c.self.inside.width c.self.inside.places.value.arities.items c.self.inside.places.value.singles.items
          c.self.inside.places.value.single c.self.invariant,
      ap (λ (p : RowOffsets). length p.singles.items) c.deref.ensures,
    )

pub rows_of-requires-clause-single : goal.rows_of-requires-clause-single
rows_of-requires-clause-single c =
    let Listed : LayoutForm → Type 0 = λ l. c.args.pred < length l.arities
    in single_before c.self.inside.size c.self.inside.width c.self.inside.places.value.arities.items c.self.inside.places.value.singles.items c.self.inside.places.value.single
    c.self.invariant c.args.pred c.index.result.now (subst Listed (sym c.self.view_is) c.requires.predicate)
    (c.index.ensures ∙ ap (λ (p : RowOffsets). get_or p.singles.items c.args.pred c.index.result.now) c.deref.ensures)

pub overflow_add-result : goal.overflow_add-result
overflow_add-result c =
    let Listed : LayoutForm → Type 0 = λ l. c.args.pred < length l.arities
    in let Within : LayoutForm → Type 0 = λ l. c.args.row < row_count l.size (get_or l.arities c.args.pred 0)
    in omega (
      arith,
      (start_placed c.self.inside.size c.self.inside.width c.self.inside.places.value.arities.items c.self.inside.places.value.singles.items c.self.inside.places.value.single
          c.self.invariant c.args.pred c.index.result.now (subst Listed (sym c.self.view_is) c.requires.predicate)
          (c.index.ensures ∙ ap (λ (p : RowOffsets). get_or p.singles.items c.args.pred c.index.result.now) c.deref.ensures)
          c.args.row c.rows_of.result (subst Within (sym c.self.view_is) c.requires.row) c.rows_of.ensures).0,
    )

pub overflow_mul-result : goal.overflow_mul-result
overflow_mul-result c =
    let Listed : LayoutForm → Type 0 = λ l. c.args.pred < length l.arities
    in let Within : LayoutForm → Type 0 = λ l. c.args.row < row_count l.size (get_or l.arities c.args.pred 0)
    in omega (
      arith,
      (start_placed c.self.inside.size c.self.inside.width c.self.inside.places.value.arities.items c.self.inside.places.value.singles.items c.self.inside.places.value.single
          c.self.invariant c.args.pred c.index.result.now (subst Listed (sym c.self.view_is) c.requires.predicate)
          (c.index.ensures ∙ ap (λ (p : RowOffsets). get_or p.singles.items c.args.pred c.index.result.now) c.deref.ensures)
          c.args.row c.rows_of.result (subst Within (sym c.self.view_is) c.requires.row) c.rows_of.ensures).1,
    )

pub returns : goal.returns
returns c =
    let Listed : LayoutForm → Type 0 = λ l. c.args.pred < length l.arities
    in let Within : LayoutForm → Type 0 = λ l. c.args.row < row_count l.size (get_or l.arities c.args.pred 0)
    in (start_placed c.self.inside.size c.self.inside.width c.self.inside.places.value.arities.items c.self.inside.places.value.singles.items c.self.inside.places.value.single
    c.self.invariant c.args.pred c.index.result.now (subst Listed (sym c.self.view_is) c.requires.predicate)
    (c.index.ensures ∙ ap (λ (p : RowOffsets). get_or p.singles.items c.args.pred c.index.result.now) c.deref.ensures)
    c.args.row c.rows_of.result (subst Within (sym c.self.view_is) c.requires.row) c.rows_of.ensures).2
    ∙ ap (λ (l : LayoutForm). row_place l c.args.pred c.args.row * words_for l.size) c.self.view_is
