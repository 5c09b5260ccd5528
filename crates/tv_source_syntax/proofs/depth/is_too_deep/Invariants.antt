use Rattle.std.proofs.Common.{◌≡◌, ◌≤◌, length}
use Rattle.tv_lex.specs.Token.{spec_tokens}
use Rattle.tv_source_syntax.specs.Depth.{passes_depth}
use Rattle.tv_source_syntax.proofs.depth.is_too_deep.Given as goal

-- what is left tells it
abbrev pub invariant-tokens : goal.invariant-tokens
invariant-tokens l = record {
  low : l.depth ≤ 200;
  same : passes_depth 0 (spec_tokens l.bytes l.tokens) ≡ passes_depth l.depth (spec_tokens l.bytes l.rest);
}

abbrev pub decreases-tokens : goal.decreases-tokens
decreases-tokens l = length l.rest
