use Rattle.std.proofs.Common.{subst, arith}
use Rattle.std.specs.Prelude.{IfNone}
use Rattle.tv_embedding_laws.specs.Embedding.{IsEmbedded}
use Rattle.tv_listing.specs.ListingForm.{at_node}
use Rattle.tv_structure_form.specs.StructureForm.{structure_of}
use Rattle.tv_replay_judge.proofs.Places.{none-all, none-more}
use Rattle.tv_replay_judge.proofs.above.first_listed.Goals as goal

pub loop-place-preserved : goal.loop-place-preserved
loop-place-preserved c =
    let s = c.args.s.now
    in let t = c.at.result.now
    in none-more s (at_node c.args.listing.now c.args.node) c.loop-place.place t c.requires.heap.0 c.requires.heap.1
    (omega (arith, c.loop-place-test.true, c.count-place-end.ensures)) c.at.ensures.value c.loop-place.invariant
    (subst (λ o. IfNone o (¬ IsEmbedded (structure_of s) (structure_of t))) c.in_default.is c.in_ok-map.ensures.none)

pub returns : goal.returns
returns c =
    none-all c.args.s.now (at_node c.args.listing.now c.args.node) c.loop-place.place
    (omega (arith, c.loop-place-test.false, c.count-place-end.ensures)) c.loop-place.invariant
