use Rattle.std.proofs.Common.{◌∷◌, ◌∙◌, [], Some, ap, length}
use Rattle.std.proofs.lemmas.List.FromFn.{length-map-range_with_len}
use Rattle.tv_structure_form.specs.StructureForm.{value_at}
use Rattle.tv_replay_step.proofs.Copied.{copied-set, copied-unary, shaped-row}
use Rattle.tv_replay_step.proofs.free.copy_values.Goals as goal

pub set_unary_row-requires-clause-size : goal.set_unary_row-requires-clause-size
set_unary_row-requires-clause-size c =
    ap length c.unary_row.ensures
    ∙ length-map-range_with_len (λ u. value_at c.args.values.now c.args.p.0 (u ∷ [])) 0 c.args.values.now.size
    ∙ c.requires.size

pub returns-in-0 : goal.returns-in-0
returns-in-0 c =
    copied-set c.args.values.now c.args.t.now c.set.new.self c.args.p.0 c.get.result c.size.ensures.kept c.requires
    (c.arity.ensures.value ∙ ap Some c.in-0.is) c.set.ensures.value c.set.ensures.over c.get.ensures

pub returns-in-1 : goal.returns-in-1
returns-in-1 c =
    copied-unary c.args.values.now c.args.t.now c.set_unary_row.new.self c.args.p.0 c.requires
    (shaped-row c.args.t.now c.set_unary_row.new.self c.args.p.0 0 c.unary_row.result c.set_unary_row.ensures.value c.set_unary_row.ensures.over)
    (c.arity.ensures.value ∙ ap Some c.in-1.is) (c.set_unary_row.ensures.row ∙ c.unary_row.ensures) c.set_unary_row.ensures.others
