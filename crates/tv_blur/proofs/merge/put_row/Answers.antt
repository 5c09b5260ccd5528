use Rattle.std.proofs.Common.{◌∙◌, ap}
use Rattle.std.specs.Prelude.{slice_get}
use Rattle.tv_structure_form.specs.StructureForm.{StructureForm}
use Rattle.tv_struct.proofs.Library.{length-unary_row}
use Rattle.tv_blur.proofs.FillLaws.{nowhere_merged, row_merged}
use Rattle.tv_blur.proofs.merge.put_row.Goals as goal

pub merged_row-requires-clause-within : goal.merged_row-requires-clause-within
merged_row-requires-clause-within c =
    rw (c.unary_row.ensures, length-unary_row c.args.s.now c.args.p.0) c.requires.classes.within

pub returns-then-not-is_nowhere-clause-values : goal.returns-then-not-is_nowhere-clause-values
returns-then-not-is_nowhere-clause-values c =
    row_merged c.args.classes.now c.args.s.now c.set_unary_row.new.self c.args.p.0 c.merged_row.result c.requires.classes
    (ap (λ (x : StructureForm). x.size) c.set_unary_row.ensures.value ∙ c.requires.size)
    (ap (λ x. slice_get x c.args.p.0) (c.set_unary_row.ensures.over ∙ c.requires.over) ∙ c.requires.arity)
    c.set_unary_row.ensures.row
    (rw c.unary_row.ensures at c.merged_row.ensures.values)

pub returns-else-not-is_nowhere-clause-values : goal.returns-else-not-is_nowhere-clause-values
returns-else-not-is_nowhere-clause-values c =
    nowhere_merged c.args.classes.now c.args.s.now c.args.t.now c.args.p.0 c.requires.classes c.requires.size
    (ap (λ x. slice_get x c.args.p.0) c.requires.over ∙ c.requires.arity) c.requires.blank
    (c.is_nowhere.ensures c.if-not-is_nowhere.false)
