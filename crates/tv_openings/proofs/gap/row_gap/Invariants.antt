use Rattle.std.proofs.Common.{ℕ, ◌≢◌, ◌<◌, [], ◌∷◌}
use Rattle.tv_kleene.specs.declared.K3.TheVariants.{Half}
use Rattle.tv_structure_form.specs.StructureForm.{value_at}
use Rattle.tv_openings.proofs.gap.row_gap.Given as goal

abbrev pub invariant-loop-w : goal.invariant-loop-w
invariant-loop-w l = (k : ℕ) → k < l.w → value_at l.s l.pred.0 (l.u ∷ k ∷ []) ≢ Half
