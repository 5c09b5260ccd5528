use Rattle.std.proofs.Common.{◌≡◌, [], ◌∷◌, None}
use Rattle.tv_structure_form.specs.StructureForm.{arities_of}
use Rattle.tv_test_engine.proofs.parts.shown.shown.Given as goal

abbrev pub invariant-loop-u : goal.invariant-loop-u
invariant-loop-u l = (arities_of l.s ≡ 0 ∷ 1 ∷ 1 ∷ 1 ∷ 2 ∷ []) × (l.s.size ≡ l.size) × (l.s.fresh ≡ None)
