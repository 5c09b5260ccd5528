use Rattle.std.proofs.Common.{◌≡◌, ◌+◌, [], length, map}
use Rattle.tv_lex.specs.Token.{spec_tokens}
use Rattle.tv_phrases.specs.Lists.{with_front}
use Rattle.tv_tree.specs.Copies.{part_of}
use Rattle.tv_parse.specs.Reading.{parts}
use Rattle.tv_parse.proofs.actions.parts.Given as goal

-- those so far and those that are left are all of them
abbrev pub invariant-parts : goal.invariant-parts
invariant-parts l = parts (length (spec_tokens l.bytes l.tokens) + 1) [] (spec_tokens l.bytes l.tokens) ≡ with_front (map part_of l.list.items) (parts l.left (map part_of l.list.items) (spec_tokens l.bytes l.rest))

abbrev pub decreases-parts : goal.decreases-parts
decreases-parts l = l.left
