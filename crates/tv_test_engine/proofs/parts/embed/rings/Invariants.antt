use Rattle.std.proofs.Common.{◌≡◌, [], ◌∷◌}
use Rattle.tv_structure_form.specs.StructureForm.{arities_of}
use Rattle.tv_test_engine.proofs.parts.embed.rings.Given as goal

abbrev pub invariant-loop-u : goal.invariant-loop-u
invariant-loop-u l = (arities_of l.s ≡ 0 ∷ 1 ∷ 1 ∷ 1 ∷ 2 ∷ []) × (l.s.size ≡ 12)
