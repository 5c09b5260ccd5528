use Rattle.std.proofs.Common.{◌≡◌, map}
use Rattle.std.specs.List.{range_with_len}
use Rattle.tv_cover.specs.Glance.{profile_near}
use Rattle.tv_cover.proofs.glance.glance_of.Given as goal

abbrev pub invariant-loop-u : goal.invariant-loop-u
invariant-loop-u l = l.unary.items ≡ map (profile_near l.s) (range_with_len 0 l.u)
