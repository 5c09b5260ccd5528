use Rattle.std.proofs.Common.{◌≡◌, ◌+◌, ◌*◌, ◌≤◌, map}
use Rattle.tv_lex.specs.Token.{spec_tokens}
use Rattle.tv_phrases.specs.Lists.{with_front}
use Rattle.tv_tree.specs.Copies.{decl_of}
use Rattle.tv_parse.specs.Reading.{decl_rows}
use Rattle.tv_parse.proofs.decls.+decls.Given as goal

abbrev pub decreases-decls_at : goal.decreases-decls_at
decreases-decls_at l = 3 * l.depth

abbrev pub decreases-foreach_at : goal.decreases-foreach_at
decreases-foreach_at l = 3 * l.depth + 1

abbrev pub decreases-decl_at : goal.decreases-decl_at
decreases-decl_at l = 3 * l.depth + 2

-- those so far and those that are left are all of them
abbrev pub invariant-decls_at-decls : goal.invariant-decls_at-decls
invariant-decls_at-decls l = record {
  same : decl_rows l.depth (spec_tokens l.bytes l.tokens) ≡ with_front (map decl_of l.items.items) (decl_rows l.left (spec_tokens l.bytes l.rest));
  less : l.left ≤ l.depth;
}

abbrev pub decreases-decls_at-decls : goal.decreases-decls_at-decls
decreases-decls_at-decls l = l.left
