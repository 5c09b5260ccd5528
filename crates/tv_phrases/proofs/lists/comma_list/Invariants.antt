use Rattle.std.proofs.Common.{◌≡◌, length, map}
use Rattle.std.specs.Prelude.{false}
use Rattle.tv_lex.specs.Token.{text_of, spec_tokens}
use Rattle.tv_phrases.specs.Tokens.{item_of}
use Rattle.tv_phrases.specs.Lists.{with_front, items_from, comma_list}
use Rattle.tv_phrases.proofs.lists.comma_list.Given as goal

-- the items so far and those that are left are all of them
abbrev pub invariant-loop-behind : goal.invariant-loop-behind
invariant-loop-behind l = comma_list (item_of l.kind) (spec_tokens l.bytes l.tokens) ≡ with_front (map (text_of l.bytes) l.list.items) (items_from (item_of l.kind) false (spec_tokens l.bytes l.rest))

abbrev pub decreases-loop-behind : goal.decreases-loop-behind
decreases-loop-behind l = length l.rest
