use Rattle.std.specs.Prelude.{◌≡◌, Contains}
use Rattle.tv_work.specs.Reach.{Point}
use Rattle.tv_join.specs.Stepped.{Finds}
use Rattle.tv_join.proofs.follow.push_found.Given as goal

abbrev pub invariant-loop-structure : goal.invariant-loop-structure
invariant-loop-structure l =
    Finds (λ (x : Point). (x.node ≡ l.node) × Contains l.yielded x.structure) l.initial.found.items l.found.items
