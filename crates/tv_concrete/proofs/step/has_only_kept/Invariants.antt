-- Each individual so far is kept.
use Rattle.std.specs.List.{AllWithin}
use Rattle.std.proofs.Common.{Contains}
use Rattle.tv_model.specs.Program.{retain_of}
use Rattle.tv_concrete.specs.Steps.{KeepsIn}
use Rattle.tv_concrete.proofs.step.has_only_kept.Given as goal

abbrev pub invariant-loop-u : goal.invariant-loop-u
invariant-loop-u l = AllWithin (λ u. Contains l.step.middle.now.individuals u
    × KeepsIn l.step (retain_of l.retain) u) l.u-items 0 l.u-index
