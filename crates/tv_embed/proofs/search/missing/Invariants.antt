use Rattle.std.proofs.Common.{◌≡◌}
use Rattle.tv_embed.specs.Search.{missing_below}
use Rattle.tv_embed.proofs.search.missing.Given as goal

abbrev pub invariant-loop-w : goal.invariant-loop-w
invariant-loop-w l = l.missing ≡ missing_below l.images l.w
