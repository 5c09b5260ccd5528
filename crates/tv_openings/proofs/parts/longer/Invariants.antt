use Rattle.tv_openings.proofs.PartLaws.{AreLongerTo}
use Rattle.tv_openings.proofs.parts.longer.Given as goal

abbrev pub invariant-loop-parts : goal.invariant-loop-parts
invariant-loop-parts l = AreLongerTo l.s l.cells l.u l.lists l.parts-index l.longer.items
