use Rattle.tv_cover.specs.Listed.{structures_in}
use Rattle.tv_cover.proofs.CoverLaws.{AreTried}
use Rattle.tv_cover.proofs.targets.first_cover.Given as goal

abbrev pub invariant-loop-place : goal.invariant-loop-place
invariant-loop-place l = AreTried (structures_in l.x) l.s l.place-items l.place-index
