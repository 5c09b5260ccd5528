use Rattle.std.proofs.Common.{◌∙◌, ap}
use Rattle.std.specs.Prelude.{slice_get}
use Rattle.tv_structure_form.specs.StructureForm.{StructureForm}
use Rattle.tv_struct.specs.StructureRows.{unary_row}
use Rattle.tv_join.proofs.Joining.{joined-row, joined-row-length, joined-values}
use Rattle.tv_join.proofs.pairwise.join_row.Goals as goal

pub set_unary_row-requires-clause-size : goal.set_unary_row-requires-clause-size
set_unary_row-requires-clause-size c =
    joined-row-length c.args.s.now c.args.t.now c.args.p.0 c.unary_row-mine.result c.unary_row-other.result
    c.join-joined.result c.requires.like.0 c.unary_row-mine.ensures c.unary_row-other.ensures c.join-joined.ensures

pub returns-clause-values : goal.returns-clause-values
returns-clause-values c =
    joined-row c.args.s.now c.args.t.now c.set_unary_row.new.self c.args.p.0 c.join-joined.result
    (ap (λ (x : StructureForm). x.size) c.set_unary_row.ensures.value) c.requires.like.0
    (ap (λ x. slice_get x c.args.p.0) (c.set_unary_row.ensures.over ∙ c.requires.like.1) ∙ c.requires.arity)
    c.set_unary_row.ensures.row
    (joined-values c.unary_row-mine.result c.unary_row-other.result c.join-joined.result (unary_row c.args.s.now c.args.p.0)
    (unary_row c.args.t.now c.args.p.0) c.unary_row-mine.ensures c.unary_row-other.ensures c.join-joined.ensures)
