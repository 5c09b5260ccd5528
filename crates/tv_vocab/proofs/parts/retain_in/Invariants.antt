use Rattle.std.proofs.Common.{◌≡◌, map, drop}
use Rattle.tv_tree.specs.Copies.{part_of}
use Rattle.tv_vocab.specs.Actions.{retain_in}
use Rattle.tv_vocab.proofs.parts.retain_in.Given as goal

abbrev pub invariant-loop-part : goal.invariant-loop-part
invariant-loop-part l = retain_in (map part_of l.parts) ≡ retain_in (map part_of (drop l.part-index l.parts))
