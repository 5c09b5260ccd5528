use Rattle.tv_embed.specs.Search.{AreAllCandidates}
use Rattle.tv_embed.proofs.candidates.all_candidates.Given as goal

abbrev pub invariant-loop-u : goal.invariant-loop-u
invariant-loop-u l = AreAllCandidates l.small l.large l.u l.lists.items
