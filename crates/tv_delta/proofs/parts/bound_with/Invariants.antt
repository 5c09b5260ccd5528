use Rattle.std.proofs.Common.{◌≡◌, Option, length}
use Rattle.tv_delta_laws.specs.Deltas.{Delta as DeltaForm}
use Rattle.tv_delta_form.specs.Views.{GivesFormed, delta_form}
use Rattle.tv_delta.specs.Quantified.{quantified_by}
use Rattle.tv_delta.proofs.parts.bound_with.Given as goal

-- the quantifiers that are left belong over the delta so far
abbrev pub invariant-loop-binding : goal.invariant-loop-binding
invariant-loop-binding l =
    (o : Option DeltaForm) → GivesFormed delta_form l.fn.d o
    → (p : Option DeltaForm) × GivesFormed delta_form l.whole p
    × (quantified_by l.bindings.items p ≡ quantified_by l.initial.bindings.items o)

abbrev pub decreases-loop-binding : goal.decreases-loop-binding
decreases-loop-binding l = length l.bindings.items
