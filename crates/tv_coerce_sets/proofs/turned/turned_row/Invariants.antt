use Rattle.std.proofs.Common.{ℕ, ◌<◌, ◌*◌, [], ◌∷◌}
use Rattle.tv_structure_form.specs.StructureForm.{value_at}
use Rattle.tv_coerce_sets.specs.Turned.{Tells}
use Rattle.tv_coerce_sets.proofs.turned.turned_row.Given as goal

abbrev pub invariant-loop-chunk : goal.invariant-loop-chunk
invariant-loop-chunk l =
    (u : ℕ) → u < 64 * l.chunk → u < l.s.size
    → Tells l.turned (value_at l.s l.p.0 (u ∷ [])) (value_at l.t l.p.0 (u ∷ []))
