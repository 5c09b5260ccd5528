use Rattle.std.proofs.Common.{◌≡◌, drop, map}
use Rattle.tv_tree.specs.Copies.{part_of}
use Rattle.tv_expand.specs.Outcome.{each}
use Rattle.tv_expand.specs.Expansion.{gathered}
use Rattle.tv_flat.specs.Views.{binding_of}
use Rattle.tv_expand.specs.Views.{sets_of}
use Rattle.tv_expand.specs.States.{gathered_of}
use Rattle.tv_expand.proofs.gather.put_parts.Given as goal

-- the state so far and the parts that are left give what all parts give
abbrev pub invariant-loop-part : goal.invariant-loop-part
invariant-loop-part l = each (λ p. gathered (sets_of l.sets.entries) (binding_of l.binding) (part_of p)) (drop l.part-index l.parts) (gathered_of l.state) ≡ each (gathered (sets_of l.sets.entries) (binding_of l.binding)) (map part_of l.parts) (gathered_of l.initial.state)
