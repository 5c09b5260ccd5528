use Rattle.std.proofs.Common.{◌∙◌, ap, arith, sym}
use Rattle.std.specs.Prelude.{slice_get}
use Rattle.tv_structure_form.specs.StructureForm.{StructureForm}
use Rattle.tv_blur.proofs.FillLaws.{nowhere_merged, row_merged, word_held, word_merged}
use Rattle.tv_blur.proofs.merge.put_word.Goals as goal

pub returns-then-has_possible-clause-values : goal.returns-then-has_possible-clause-values
returns-then-has_possible-clause-values c =
    row_merged c.args.classes.now c.args.s.now c.set_unary_row.new.self c.args.p.0 c.merged_in.result c.requires.classes
    (ap (λ (x : StructureForm). x.size) c.set_unary_row.ensures.value ∙ c.requires.size)
    (ap (λ x. slice_get x c.args.p.0) (c.set_unary_row.ensures.over ∙ c.requires.over) ∙ c.requires.arity)
    c.set_unary_row.ensures.row
    (λ w lt. word_merged c.args.classes.now c.args.s.now c.args.p.0 c.unary_word-word.result c.merged_in.result c.requires.classes
    c.requires.fit.few c.unary_word-word.ensures.values w lt (c.merged_in.ensures.values w lt))

pub returns-else-has_possible-clause-values : goal.returns-else-has_possible-clause-values
returns-else-has_possible-clause-values c =
    nowhere_merged c.args.classes.now c.args.s.now c.args.t.now c.args.p.0 c.requires.classes c.requires.size
    (ap (λ x. slice_get x c.args.p.0) c.requires.over ∙ c.requires.arity) c.requires.blank
    (λ u lt. sym (word_held c.args.s.now c.args.p.0 c.unary_word-word.result c.requires.fit.few c.unary_word-word.ensures.values u lt)
    ∙ c.if-has_possible.ensures u (omega (arith, lt, c.size-2.ensures.size)) (omega (arith, lt, c.requires.fit.few)))
