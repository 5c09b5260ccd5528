use Rattle.std.proofs.Common.{◌≡◌, ◌++◌, map}
use Rattle.std.specs.List.{range_with_len}
use Rattle.tv_tvs.specs.Canonical.{individual}
use Rattle.tv_tvs.proofs.individuals.all_with.Given as goal

abbrev pub invariant-loop-u : goal.invariant-loop-u
invariant-loop-u l = l.texts.items ≡ map (λ u. individual u ++ l.end) (range_with_len 0 l.u)
