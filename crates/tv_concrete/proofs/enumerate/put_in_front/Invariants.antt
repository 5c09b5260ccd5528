-- The tuples of the individuals so far stand behind the old ones.
use Rattle.std.proofs.Common.{◌≡◌, ◌∷◌, ◌++◌, map, take}
use Rattle.tv_concrete.proofs.enumerate.put_in_front.Given as goal

abbrev pub invariant-loop-u : goal.invariant-loop-u
invariant-loop-u l = l.all ≡ l.initial.all ++ map (λ u. u ∷ l.tuple) (take l.u-index l.individuals)
