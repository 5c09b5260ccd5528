use Rattle.std.proofs.Common.{◌∙◌, ap, length, refl, sym}
use Rattle.std.specs.Prelude.{slice_get}
use Rattle.tv_structure_form.specs.StructureForm.{StructureForm}
use Rattle.tv_struct.proofs.Library.{length-unary_row}
use Rattle.tv_join.proofs.Copying.{copied-row, nowhere-none}
use Rattle.tv_join.proofs.Entries.{same-everywhere}
use Rattle.tv_join.proofs.key.copy_row.Goals as goal

pub set_unary_row-requires-clause-size : goal.set_unary_row-requires-clause-size
set_unary_row-requires-clause-size c =
    ap length c.unary_row-row.ensures ∙ length-unary_row c.args.s.now c.args.p.0 ∙ sym c.requires.like.0

pub returns-clause-values : goal.returns-clause-values
returns-clause-values c =
    let new = c.set_unary_row.new.self
    in let size = sym (ap (λ (x : StructureForm). x.size) c.set_unary_row.ensures.value ∙ c.requires.like.0)
    in let over = sym (c.set_unary_row.ensures.over ∙ c.requires.like.1)
    in same-everywhere c.args.s.now new c.size.ensures.kept c.set_unary_row.ensures.kept size over c.args.p.0
    (copied-row c.args.s.now new c.args.p.0 size
    (ap (λ x. slice_get x c.args.p.0) (c.set_unary_row.ensures.over ∙ c.requires.like.1) ∙ c.requires.arity)
    (c.set_unary_row.ensures.row ∙ c.unary_row-row.ensures))

pub returns-then-is_nowhere-clause-changes : goal.returns-then-is_nowhere-clause-changes
returns-then-is_nowhere-clause-changes c = record {
  size = refl;
  over = refl;
  summaries = refl;
  fresh = refl;
  others = λ q tuple differ. refl;
}

pub returns-then-is_nowhere-clause-values : goal.returns-then-is_nowhere-clause-values
returns-then-is_nowhere-clause-values c tuple =
    nowhere-none c.args.s.now c.args.p.0 c.size.ensures.kept c.requires.arity
    (c.is_nowhere.ensures c.if-is_nowhere.true) tuple
    ∙ sym (c.requires.blank tuple)
