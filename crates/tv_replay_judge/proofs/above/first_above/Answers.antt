use Rattle.std.proofs.Common.{subst, arith}
use Rattle.std.specs.Prelude.{IfNone}
use Rattle.tv_embedding_laws.specs.Embedding.{IsEmbedded}
use Rattle.tv_structure_form.specs.StructureForm.{structure_of}
use Rattle.tv_replay_judge.proofs.Places.{item-there, none-all, none-more}
use Rattle.tv_replay_judge.proofs.above.first_above.Goals as goal

pub loop-place-preserved : goal.loop-place-preserved
loop-place-preserved c =
    let s = c.args.s.now
    in let t = c.index-structures-place.result
    in none-more s c.args.structures.now c.loop-place.place t c.requires.heap.0 c.requires.heap.1 (omega (arith, c.loop-place-test.true))
    (item-there c.args.structures.now c.loop-place.place t (omega (arith, c.loop-place-test.true)) c.index-structures-place.is)
    c.loop-place.invariant
    (subst (λ o. IfNone o (¬ IsEmbedded (structure_of s) (structure_of t))) c.in_default.is c.in_ok-map.ensures.none)

pub returns : goal.returns
returns c = none-all c.args.s.now c.args.structures.now c.loop-place.place (omega (arith, c.loop-place-test.false)) c.loop-place.invariant
