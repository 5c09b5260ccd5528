use Rattle.std.proofs.Common.{ℕ, ◌≡◌, List, ◌++◌, ◌∷◌, [], ◌∙◌, ap, sym, map, arith}
use Rattle.std.specs.List.{range_with_len}
use Rattle.std.proofs.lemmas.List.FromFn.{map-range_with_len_more}
use Rattle.tv_tvs.specs.Canonical.{individual}
use Rattle.tv_tvs.proofs.individuals.all_with.Goals as goal

pub loop-u-preserved : goal.loop-u-preserved
loop-u-preserved c =
    let named : ℕ → List ℕ = λ u. individual u ++ c.args.end.now
    in c.in_ok-push.ensures.items ∙ ap (λ n. c.loop-u.texts.items ++ n ∷ []) c.in_ok-text.ensures
    ∙ ap (λ ns. ns ++ named c.loop-u.u ∷ []) c.loop-u.invariant
    ∙ sym (map-range_with_len_more named 0 c.loop-u.u c.loop-u.u (omega arith))

pub returns : goal.returns
returns c =
    let all : c.loop-u.u ≡ 256 = omega (arith, c.loop-u-test.false, c.loop-u.auto.u-end)
    in c.loop-u.invariant ∙ ap (λ n. map (λ u. individual u ++ c.args.end.now) (range_with_len 0 n)) all
