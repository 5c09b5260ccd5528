use Rattle.std.proofs.Common.{◌∷◌, ◌∙◌, [], sym, ap, length, arith}
use Rattle.std.proofs.lemmas.List.FromFn.{length-map-range_with_len}
use Rattle.tv_structure_form.specs.StructureForm.{value_at}
use Rattle.tv_replay_step.proofs.Copied.{rows-all, rows-more}
use Rattle.tv_replay_step.proofs.free.copy_pairs.Goals as goal

pub set_row-requires-clause-size : goal.set_row-requires-clause-size
set_row-requires-clause-size c =
    ap length c.row.ensures
    ∙ length-map-range_with_len (λ w. value_at c.args.values.now c.args.p.0 (c.loop-u.u ∷ w ∷ [])) 0 c.args.values.now.size
    ∙ c.requires.can.size ∙ sym c.loop-u.invariant.shaped.size

pub loop-u-preserved : goal.loop-u-preserved
loop-u-preserved c =
    rows-more c.args.values.now c.args.t.now c.loop-u.t c.set_row.new.self c.args.p.0 c.loop-u.u c.row.result c.requires.can c.loop-u.invariant
    c.set_row.ensures.value c.set_row.ensures.over c.set_row.ensures.row c.row.ensures c.set_row.ensures.others

pub returns : goal.returns
returns c =
    rows-all c.args.values.now c.args.t.now c.loop-u.t c.args.p.0 c.loop-u.u c.requires.can c.requires.arity c.loop-u.invariant
    (omega (arith, c.loop-u-test.false, c.size-u-end.ensures.size))
