use Rattle.tv_embed.specs.Search.{AreBounds}
use Rattle.tv_embed.proofs.bounds.bounds.Given as goal

abbrev pub invariant-loop-u : goal.invariant-loop-u
invariant-loop-u l = AreBounds l.small l.large l.u l.bounds.items
