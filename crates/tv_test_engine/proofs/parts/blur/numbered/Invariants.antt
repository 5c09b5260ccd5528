use Rattle.std.proofs.Common.{◌≡◌, [], ◌∷◌}
use Rattle.tv_structure_form.specs.StructureForm.{arities_of}
use Rattle.tv_test_engine.proofs.parts.blur.numbered.Given as goal

abbrev pub invariant-loop-u : goal.invariant-loop-u
invariant-loop-u l = (arities_of l.s ≡ 1 ∷ 1 ∷ 1 ∷ 1 ∷ 1 ∷ 1 ∷ []) × (l.s.size ≡ 256)
