use Rattle.std.proofs.Common.{ℕ, ◌≡◌, ◌<◌, ◌*◌, [], ◌∷◌}
use Rattle.tv_kleene.specs.declared.K3.TheVariants.{No}
use Rattle.tv_structure_form.specs.StructureForm.{value_at}
use Rattle.tv_struct.proofs.nowhere.is_nowhere.Given as goal

abbrev pub invariant-loop-chunk : goal.invariant-loop-chunk
invariant-loop-chunk l = (u : ℕ) → u < 64 * l.chunk → u < l.s.size → value_at l.s l.p.0 (u ∷ []) ≡ No
