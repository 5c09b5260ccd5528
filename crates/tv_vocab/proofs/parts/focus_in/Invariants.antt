use Rattle.std.proofs.Common.{◌≡◌, map, drop}
use Rattle.tv_tree.specs.Copies.{part_of}
use Rattle.tv_vocab.specs.Actions.{focus_in}
use Rattle.tv_vocab.proofs.parts.focus_in.Given as goal

abbrev pub invariant-loop-part : goal.invariant-loop-part
invariant-loop-part l = focus_in (map part_of l.parts) ≡ focus_in (map part_of (drop l.part-index l.parts))
