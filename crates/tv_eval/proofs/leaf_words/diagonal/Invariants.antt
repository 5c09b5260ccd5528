-- the values so far are found
use Rattle.std.proofs.Common.{[], ◌∷◌}
use Rattle.tv_structure_form.specs.StructureForm.{value_at}
use Rattle.tv_quantifiers.proofs.Filled.{FilledTo}
use Rattle.tv_eval.proofs.leaf_words.diagonal.Given as goal

abbrev pub invariant-loop-i : goal.invariant-loop-i
invariant-loop-i l = FilledTo l.chunk l.i (λ u. value_at l.s l.pred.0 (u ∷ u ∷ [])) l.values
