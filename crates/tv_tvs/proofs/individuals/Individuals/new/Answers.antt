use Rattle.std.proofs.Common.{ℕ, List, ◌++◌, ◌∙◌, ap, map}
use Rattle.std.specs.List.{range_with_len}
use Rattle.tv_tvs.specs.Canonical.{individual}
use Rattle.tv_tvs.proofs.individuals.Individuals.new.Goals as goal

pub invariant_of-result : goal.invariant_of-result
invariant_of-result c =
    let texts : List ℕ → List (List ℕ) = λ end. map (λ u. individual u ++ end) (range_with_len 0 256)
    in (c.in_ok-lasts.ensures ∙ ap texts c.of.ensures, c.in_ok-firsts.ensures ∙ ap texts c.of-2.ensures)
