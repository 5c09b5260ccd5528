use Rattle.std.proofs.Common.{◌≡◌, [], ◌∷◌, None}
use Rattle.tv_structure_form.specs.StructureForm.{arities_of}
use Rattle.tv_test_engine.proofs.parts.shown.put_word.Given as goal

abbrev pub invariant-loop-w : goal.invariant-loop-w
invariant-loop-w l = (arities_of l.s ≡ 0 ∷ 1 ∷ 1 ∷ 1 ∷ 2 ∷ []) × (l.s.size ≡ l.initial.s.size) × (l.s.fresh ≡ None)
