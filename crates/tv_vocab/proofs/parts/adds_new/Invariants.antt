use Rattle.std.proofs.Common.{◌≡◌, map, drop}
use Rattle.tv_tree.specs.Copies.{part_of}
use Rattle.tv_vocab.specs.Actions.{adds_new}
use Rattle.tv_vocab.proofs.parts.adds_new.Given as goal

abbrev pub invariant-loop-part : goal.invariant-loop-part
invariant-loop-part l = adds_new (map part_of l.parts) ≡ adds_new (map part_of (drop l.part-index l.parts))
