use Rattle.std.proofs.Common.{◌++◌, ◌∙◌, ap, sym}
use Rattle.std.specs.Prelude.{codes, decimal}
use Rattle.std.specs.List.{flat_map}
use Rattle.std.proofs.lemmas.List.{take_all}
use Rattle.std.proofs.lemmas.List.Folds.{flat_map-map}
use Rattle.tv_tvs.proofs.numbers.write_next_numbers.Goals as goal

pub returns : goal.returns
returns c =
    c.loop-n.invariant
    ∙ ap (λ ns. c.args.out.now.items ++ flat_map (λ n. codes ", " ++ decimal n) ns) (take_all c.loop-n.n-index c.args.numbers.now c.loop-n-test.false)
    ∙ ap (λ t. c.args.out.now.items ++ t) (sym (flat_map-map (λ t. codes ", " ++ t) decimal c.args.numbers.now))
