use Rattle.std.proofs.Common.{◌≡◌, ◌++◌, map, drop}
use Rattle.std.specs.List.{flat_map}
use Rattle.tv_tree.specs.Copies.{piece_of}
use Rattle.tv_vocab.specs.Actions.{piece_text}
use Rattle.tv_vocab.proofs.actions.joined.Given as goal

abbrev pub invariant-loop-piece : goal.invariant-loop-piece
invariant-loop-piece l = flat_map piece_text (map piece_of l.pieces) ≡ l.text.items ++ flat_map piece_text (map piece_of (drop l.piece-index l.pieces))
