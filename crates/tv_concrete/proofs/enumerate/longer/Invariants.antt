-- The longer tuples of the shorter ones so far.
use Rattle.std.proofs.Common.{◌≡◌, ◌∷◌, map, take, flat_map}
use Rattle.tv_concrete.proofs.enumerate.longer.Given as goal

abbrev pub invariant-loop-tuple : goal.invariant-loop-tuple
invariant-loop-tuple l = l.all ≡ flat_map (λ tuple. map (λ u. u ∷ tuple) l.individuals) (take l.tuple-index l.shorter)
