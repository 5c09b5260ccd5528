-- Each individual so far that is kept is there.
use Rattle.std.specs.List.{AllWithin}
use Rattle.std.proofs.Common.{Contains}
use Rattle.tv_model.specs.Program.{retain_of}
use Rattle.tv_concrete.specs.Steps.{KeepsIn}
use Rattle.tv_concrete.proofs.step.has_all_kept.Given as goal

abbrev pub invariant-loop-u : goal.invariant-loop-u
invariant-loop-u l = AllWithin (λ u. KeepsIn l.step (retain_of l.retain) u
    → Contains l.step.new.now.individuals u) l.u-items 0 l.u-index
