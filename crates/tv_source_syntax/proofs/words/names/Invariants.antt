use Rattle.std.proofs.Common.{◌≡◌, map}
use Rattle.std.specs.Prelude.{codes}
use Rattle.tv_lex.specs.Token.{text_of, spec_tokens}
use Rattle.tv_phrases.specs.Lists.{with_front}
use Rattle.tv_phrases.specs.Repeated.{begins_with, behind, many}
use Rattle.tv_source_syntax.specs.Words.{name_at}
use Rattle.tv_source_syntax.specs.Reading.{names_at}
use Rattle.tv_source_syntax.proofs.words.names.Given as goal

-- those so far and those that are left are all of them
abbrev pub invariant-names : goal.invariant-names
invariant-names l = names_at (spec_tokens l.bytes l.tokens) ≡ with_front (map (text_of l.bytes) l.list.items) (many (begins_with (codes ",")) (behind (codes ",") name_at) l.left (spec_tokens l.bytes l.rest))

abbrev pub decreases-names : goal.decreases-names
decreases-names l = l.left
