use Rattle.std.proofs.Common.{◌≡◌, ◌++◌, drop, map}
use Rattle.tv_tree.specs.Copies.{piece_of}
use Rattle.tv_flat.specs.Replaced.{joined_text}
use Rattle.tv_flat.specs.Views.{binding_of}
use Rattle.tv_flat.proofs.copies.joined.Given as goal

-- what is copied and the copies of what is left are the whole copy
abbrev pub invariant-loop-piece : goal.invariant-loop-piece
invariant-loop-piece l = l.text.items ++ joined_text (binding_of l.binding) (map piece_of (drop l.piece-index l.pieces)) ≡ joined_text (binding_of l.binding) (map piece_of l.pieces)
