use Rattle.std.proofs.Common.{◌*◌, ◌∙◌, length, ap, arith}
use Rattle.tv_struct.specs.LayoutForm.{LayoutForm, words_for, end_from}
use Rattle.tv_struct.specs.declared.layout.RowOffsets.{RowOffsets}
use Rattle.tv_struct.proofs.LayoutLaws.{singles_listed, words_counted}
use Rattle.tv_struct.proofs.layout.Layout.word_count.Goals as goal

pub rows_of-requires-clause-single : goal.rows_of-requires-clause-single
rows_of-requires-clause-single c =
    singles_listed c.self.inside.size c.self.inside.width c.self.inside.places.value.arities.items c.self.inside.places.value.singles.items c.self.inside.places.value.single c.self.invariant
    c.deref.result.now.single c.len.result (ap (λ p. p.single) c.deref.ensures) (omega (arith, c.len.ensures, ap (λ (p : RowOffsets). length p.arities.items) c.deref-2.ensures))

pub overflow_mul-result : goal.overflow_mul-result
overflow_mul-result c =
    omega (
      arith,
      (words_counted c.self.inside.size c.self.inside.width c.self.inside.places.value.arities.items c.self.inside.places.value.singles.items c.self.inside.places.value.single c.self.invariant
          c.deref.result.now.single c.len.result c.rows_of.result (ap (λ p. p.single) c.deref.ensures) (omega (arith, c.len.ensures, ap (λ (p : RowOffsets). length p.arities.items) c.deref-2.ensures))
          c.rows_of.ensures).0,
    )

pub returns : goal.returns
returns c =
    (words_counted c.self.inside.size c.self.inside.width c.self.inside.places.value.arities.items c.self.inside.places.value.singles.items c.self.inside.places.value.single c.self.invariant
    c.deref.result.now.single c.len.result c.rows_of.result (ap (λ p. p.single) c.deref.ensures) (omega (arith, c.len.ensures, ap (λ (p : RowOffsets). length p.arities.items) c.deref-2.ensures))
    c.rows_of.ensures).1
    ∙ ap (λ (l : LayoutForm). end_from l.size 0 l.arities * words_for l.size) c.self.view_is
