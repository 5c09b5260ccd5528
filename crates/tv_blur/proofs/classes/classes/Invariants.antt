use Rattle.tv_blur.specs.Naming.{IsGathered}
use Rattle.tv_blur.proofs.classes.classes.Given as goal

abbrev pub invariant-loop-u : goal.invariant-loop-u
invariant-loop-u l = IsGathered l.names l.u l.classes.items
