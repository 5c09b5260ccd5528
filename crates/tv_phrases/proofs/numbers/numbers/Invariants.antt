use Rattle.std.proofs.Common.{◌≡◌, length}
use Rattle.std.specs.Prelude.{false}
use Rattle.tv_lex.specs.Token.{spec_tokens}
use Rattle.tv_phrases.specs.Tokens.{number_item}
use Rattle.tv_phrases.specs.Lists.{with_front, items_from, comma_list}
use Rattle.tv_phrases.proofs.numbers.numbers.Given as goal

-- the numbers so far and those that are left are all of them
abbrev pub invariant-loop-behind : goal.invariant-loop-behind
invariant-loop-behind l = comma_list number_item (spec_tokens l.bytes l.tokens) ≡ with_front l.list.items (items_from number_item false (spec_tokens l.bytes l.rest))

abbrev pub decreases-loop-behind : goal.decreases-loop-behind
decreases-loop-behind l = length l.rest
