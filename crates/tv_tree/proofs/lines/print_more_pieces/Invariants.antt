use Rattle.std.proofs.Common.{◌≡◌, ◌++◌, drop, map}
use Rattle.std.specs.Prelude.{codes}
use Rattle.std.specs.List.{flat_map}
use Rattle.tv_tree.specs.Copies.{piece_of}
use Rattle.tv_tree.specs.Printed.{spaced, more_tokens, piece_tokens}
use Rattle.tv_tree.proofs.lines.print_more_pieces.Given as goal

-- what is printed and what is left are all of it
abbrev pub invariant-loop-piece : goal.invariant-loop-piece
invariant-loop-piece l = l.out.items ++ spaced (more_tokens (codes "+") piece_tokens (map piece_of (drop l.piece-index l.pieces))) ≡ l.initial.out.items ++ spaced (more_tokens (codes "+") piece_tokens (map piece_of l.pieces))
