use Rattle.std.proofs.Common.{◌≡◌, map}
use Rattle.tv_lex.specs.Token.{spec_tokens}
use Rattle.tv_phrases.specs.Lists.{with_front}
use Rattle.tv_tree.specs.Copies.{edge_of}
use Rattle.tv_parse.specs.Grammar.{begins_edge}
use Rattle.tv_parse.specs.Reading.{edge_reading, edges_reading}
use Rattle.tv_phrases.specs.Repeated.{many}
use Rattle.tv_parse.proofs.program.edges.Given as goal

-- those so far and those that are left are all of them
abbrev pub invariant-edges : goal.invariant-edges
invariant-edges l = edges_reading (spec_tokens l.bytes l.tokens) ≡ with_front (map edge_of l.list.items) (many begins_edge edge_reading l.left (spec_tokens l.bytes l.rest))

abbrev pub decreases-edges : goal.decreases-edges
decreases-edges l = l.left
