use Rattle.tv_embed.specs.Search.{AllowsAll}
use Rattle.tv_embed.proofs.candidates.allowed.Given as goal

abbrev pub invariant-loop-p : goal.invariant-loop-p
invariant-loop-p l = AllowsAll l.small l.large l.u l.allowed
