use Rattle.std.proofs.Common.{◌≡◌, [], length, reverse}
use Rattle.tv_lex.specs.Token.{spec_tokens}
use Rattle.tv_parse.specs.Height.{passes_height}
use Rattle.tv_parse.proofs.height.is_too_deep.Given as goal

-- what is left tells it
abbrev pub invariant-tokens : goal.invariant-tokens
invariant-tokens l = passes_height [] (spec_tokens l.bytes l.tokens) ≡ passes_height (reverse l.stack.items) (spec_tokens l.bytes l.rest)

abbrev pub decreases-tokens : goal.decreases-tokens
decreases-tokens l = length l.rest
