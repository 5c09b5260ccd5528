use Rattle.std.proofs.Common.{◌≡◌, map, drop}
use Rattle.tv_tree.specs.Copies.{part_of}
use Rattle.tv_vocab.specs.Actions.{pre_in}
use Rattle.tv_vocab.proofs.parts.pre_in.Given as goal

abbrev pub invariant-loop-part : goal.invariant-loop-part
invariant-loop-part l = pre_in (map part_of l.parts) ≡ pre_in (map part_of (drop l.part-index l.parts))
