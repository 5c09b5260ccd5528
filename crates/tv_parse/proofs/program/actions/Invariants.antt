use Rattle.std.proofs.Common.{◌≡◌, map}
use Rattle.std.specs.Prelude.{codes}
use Rattle.tv_lex.specs.Token.{spec_tokens}
use Rattle.tv_phrases.specs.Lists.{with_front}
use Rattle.tv_tree.specs.Copies.{action_of}
use Rattle.tv_parse.specs.Reading.{action_reading, actions_reading}
use Rattle.tv_phrases.specs.Repeated.{begins_with, many}
use Rattle.tv_parse.proofs.program.actions.Given as goal

-- those so far and those that are left are all of them
abbrev pub invariant-actions : goal.invariant-actions
invariant-actions l = actions_reading (spec_tokens l.bytes l.tokens) ≡ with_front (map action_of l.list.items) (many (begins_with (codes "%action")) action_reading l.left (spec_tokens l.bytes l.rest))

abbrev pub decreases-actions : goal.decreases-actions
decreases-actions l = l.left
