use Rattle.std.proofs.Common.{◌≡◌, [], ◌∷◌, None}
use Rattle.tv_structure_form.specs.StructureForm.{arities_of}
use Rattle.tv_test_engine.proofs.parts.limits.structure.Given as goal

abbrev pub invariant-loop-u : goal.invariant-loop-u
invariant-loop-u l = (arities_of l.s ≡ 1 ∷ 1 ∷ 1 ∷ 1 ∷ []) × (l.s.size ≡ l.unknown.size) × (l.s.fresh ≡ None)
