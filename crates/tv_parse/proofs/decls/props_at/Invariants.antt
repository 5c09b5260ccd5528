use Rattle.std.proofs.Common.{◌≡◌}
use Rattle.tv_lex.specs.Token.{spec_tokens}
use Rattle.tv_phrases.specs.Lists.{with_front}
use Rattle.tv_phrases.specs.Tokens.{first}
use Rattle.tv_parse.specs.Kinds.{prop_item}
use Rattle.tv_parse.specs.Grammar.{begins_prop}
use Rattle.tv_parse.specs.Reading.{props_reading}
use Rattle.tv_phrases.specs.Repeated.{many}
use Rattle.tv_parse.proofs.decls.props_at.Given as goal

-- those so far and those that are left are all of them
abbrev pub invariant-props : goal.invariant-props
invariant-props l = props_reading (spec_tokens l.bytes l.tokens) ≡ with_front l.list.items (many begins_prop (first prop_item) l.left (spec_tokens l.bytes l.rest))

abbrev pub decreases-props : goal.decreases-props
decreases-props l = l.left
