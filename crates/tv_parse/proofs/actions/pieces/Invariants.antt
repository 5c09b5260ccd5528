use Rattle.std.proofs.Common.{◌≡◌, map}
use Rattle.std.specs.Prelude.{codes}
use Rattle.tv_lex.specs.Token.{spec_tokens}
use Rattle.tv_phrases.specs.Lists.{with_front}
use Rattle.tv_tree.specs.Copies.{piece_of}
use Rattle.tv_parse.specs.Reading.{pieces_reading, piece_reading}
use Rattle.tv_phrases.specs.Repeated.{begins_with, behind, many}
use Rattle.tv_parse.proofs.actions.pieces.Given as goal

-- those so far and those that are left are all of them
abbrev pub invariant-pieces : goal.invariant-pieces
invariant-pieces l = pieces_reading (spec_tokens l.bytes l.tokens) ≡ with_front (map piece_of l.list.items) (many (begins_with (codes "+")) (behind (codes "+") piece_reading) l.left (spec_tokens l.bytes l.rest))

abbrev pub decreases-pieces : goal.decreases-pieces
decreases-pieces l = l.left
