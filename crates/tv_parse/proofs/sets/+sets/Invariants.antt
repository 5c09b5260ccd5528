use Rattle.std.proofs.Common.{◌≡◌, ◌+◌, ◌*◌, ◌<◌, map}
use Rattle.tv_lex.specs.Token.{spec_tokens}
use Rattle.tv_tree.specs.Copies.{joined_set, term_of, step_of}
use Rattle.tv_parse.specs.Reading.{AllSets, Further, sets}
use Rattle.tv_parse.proofs.sets.+sets.Given as goal

abbrev pub decreases-set_at : goal.decreases-set_at
decreases-set_at l = 3 * l.depth

abbrev pub decreases-paren_at : goal.decreases-paren_at
decreases-paren_at l = 3 * l.depth + 1

abbrev pub decreases-term_at : goal.decreases-term_at
decreases-term_at l = 3 * l.depth + 2

-- the sets so far and what may stand behind them are all of them
abbrev pub invariant-set_at-steps : goal.invariant-set_at-steps
invariant-set_at-steps l = record {
  same : sets l.depth AllSets (spec_tokens l.bytes l.tokens) ≡ sets l.left (Further (joined_set (term_of l.first) (map step_of l.more.items))) (spec_tokens l.bytes l.rest);
  less : l.left < l.depth;
}

abbrev pub decreases-set_at-steps : goal.decreases-set_at-steps
decreases-set_at-steps l = l.left
