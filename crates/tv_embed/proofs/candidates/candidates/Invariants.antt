use Rattle.std.proofs.Common.{◌≤◌, ◌-◌}
use Rattle.tv_embed.specs.Search.{AreCandidates}
use Rattle.tv_embed.proofs.candidates.candidates.Given as goal

abbrev pub invariant-loop-w : goal.invariant-loop-w
invariant-loop-w l = AreCandidates l.small l.large l.u l.from l.list × (l.from ≤ l.large.size)

abbrev pub decreases-loop-w : goal.decreases-loop-w
decreases-loop-w l = l.large.size - l.from
