use Rattle.tv_embed.proofs.BoundLaws.{IsRaised}
use Rattle.tv_embed.proofs.bounds.raise.Given as goal

abbrev pub invariant-loop-w : goal.invariant-loop-w
invariant-loop-w l = IsRaised l.places l.bound l.w-index l.initial.bounds.items l.bounds.items
