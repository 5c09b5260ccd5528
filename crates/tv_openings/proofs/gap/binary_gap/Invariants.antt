use Rattle.std.proofs.Common.{ℕ, ◌≢◌, ◌<◌, [], ◌∷◌}
use Rattle.tv_kleene.specs.declared.K3.TheVariants.{Half}
use Rattle.tv_structure_form.specs.StructureForm.{value_at}
use Rattle.tv_openings.proofs.gap.binary_gap.Given as goal

abbrev pub invariant-loop-u : goal.invariant-loop-u
invariant-loop-u l = (k : ℕ) → k < l.u → (w : ℕ) → w < l.s.size → value_at l.s l.pred.0 (k ∷ w ∷ []) ≢ Half
