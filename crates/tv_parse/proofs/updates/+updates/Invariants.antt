use Rattle.std.proofs.Common.{◌≡◌, ◌+◌, ◌*◌, ◌≤◌, map}
use Rattle.tv_lex.specs.Token.{spec_tokens}
use Rattle.tv_phrases.specs.Lists.{with_front}
use Rattle.tv_tree.specs.Copies.{update_of}
use Rattle.tv_parse.specs.Reading.{update_rows}
use Rattle.tv_parse.proofs.updates.+updates.Given as goal

abbrev pub decreases-updates_at : goal.decreases-updates_at
decreases-updates_at l = 3 * l.depth

abbrev pub decreases-foreach_at : goal.decreases-foreach_at
decreases-foreach_at l = 3 * l.depth + 1

abbrev pub decreases-update_at : goal.decreases-update_at
decreases-update_at l = 3 * l.depth + 2

-- those so far and those that are left are all of them
abbrev pub invariant-updates_at-updates : goal.invariant-updates_at-updates
invariant-updates_at-updates l = record {
  same : update_rows l.depth (spec_tokens l.bytes l.tokens) ≡ with_front (map update_of l.items.items) (update_rows l.left (spec_tokens l.bytes l.rest));
  less : l.left ≤ l.depth;
}

abbrev pub decreases-updates_at-updates : goal.decreases-updates_at-updates
decreases-updates_at-updates l = l.left
