use Rattle.std.proofs.Common.{◌≡◌, drop, map}
use Rattle.tv_tree.specs.Copies.{part_of}
use Rattle.tv_parse.specs.Kinds.{has_kind}
use Rattle.tv_parse.proofs.actions.has_kind.Given as goal

-- none of those so far is of the kind
abbrev pub invariant-loop-part : goal.invariant-loop-part
invariant-loop-part l = has_kind l.kind (map part_of l.parts) ≡ has_kind l.kind (map part_of (drop l.part-index l.parts))
