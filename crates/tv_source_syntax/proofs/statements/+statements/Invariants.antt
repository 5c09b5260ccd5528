use Rattle.std.proofs.Common.{◌≡◌, ◌+◌, ◌*◌, ◌≤◌, map}
use Rattle.tv_lex.specs.Token.{spec_tokens}
use Rattle.tv_phrases.specs.Lists.{with_front}
use Rattle.tv_source_syntax.specs.Copies.{statement_of}
use Rattle.tv_source_syntax.specs.Reading.{statements}
use Rattle.tv_source_syntax.proofs.statements.+statements.Given as goal

abbrev pub decreases-statements : goal.decreases-statements
decreases-statements l = 6 * l.depth

abbrev pub decreases-block : goal.decreases-block
decreases-block l = 6 * l.depth + 1

abbrev pub decreases-otherwise : goal.decreases-otherwise
decreases-otherwise l = 6 * l.depth + 2

abbrev pub decreases-branch : goal.decreases-branch
decreases-branch l = 6 * l.depth + 3

abbrev pub decreases-repeat : goal.decreases-repeat
decreases-repeat l = 6 * l.depth + 3

abbrev pub decreases-closed : goal.decreases-closed
decreases-closed l = 6 * l.depth + 4

abbrev pub decreases-statement : goal.decreases-statement
decreases-statement l = 6 * l.depth + 5

-- those so far and those that are left are all of them
abbrev pub invariant-statements-statements : goal.invariant-statements-statements
invariant-statements-statements l = record {
  same : statements l.depth (spec_tokens l.bytes l.tokens) ≡ with_front (map (statement_of l.bytes) l.items.items) (statements l.left (spec_tokens l.bytes l.rest));
  less : l.left ≤ l.depth;
}

abbrev pub decreases-statements-statements : goal.decreases-statements-statements
decreases-statements-statements l = l.left
