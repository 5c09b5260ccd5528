-- One more shorter tuple gives one more part.
use Rattle.std.proofs.Common.{ℕ, List, ◌∷◌, ◌++◌, map, ap, sym, ◌∙◌}
use Rattle.tv_concrete.proofs.Lists.{flat_map-take_more}
use Rattle.tv_concrete.proofs.enumerate.longer.Goals as goal

pub loop-tuple-preserved : goal.loop-tuple-preserved
loop-tuple-preserved c =
    let each : List ℕ → List (List ℕ) = λ tuple. map (λ u. u ∷ tuple) c.args.individuals.now
    in c.in_ok-put_in_front.ensures
    ∙ ap (λ ys. ys ++ each c.tuple-item.result) c.loop-tuple.invariant
    ∙ (rw c.tuple-item.is
    (sym (flat_map-take_more each c.args.shorter.now c.loop-tuple.tuple-index c.tuple-item.result c.loop-tuple-test.true)))
