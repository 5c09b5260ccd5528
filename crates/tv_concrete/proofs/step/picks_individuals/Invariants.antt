-- Each picked variable so far stands for an individual.
use Rattle.std.specs.List.{AllWithin}
use Rattle.std.proofs.Common.{Contains}
use Rattle.tv_model.specs.declared.formula.Var.{Var}
use Rattle.tv_concrete.specs.Lists.{assignment_of}
use Rattle.tv_concrete.proofs.step.picks_individuals.Given as goal

abbrev pub invariant-loop-v : goal.invariant-loop-v
invariant-loop-v l = AllWithin (λ (v : Var). Contains l.old.individuals
    (assignment_of l.picked v.0)) l.picks 0 l.v-index
