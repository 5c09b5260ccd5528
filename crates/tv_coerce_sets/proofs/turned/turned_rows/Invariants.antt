use Rattle.std.proofs.Common.{ℕ, ◌<◌, [], ◌∷◌}
use Rattle.tv_structure_form.specs.StructureForm.{value_at}
use Rattle.tv_coerce_sets.specs.Turned.{Tells}
use Rattle.tv_coerce_sets.proofs.turned.turned_rows.Given as goal

abbrev pub invariant-loop-u : goal.invariant-loop-u
invariant-loop-u l =
    (k : ℕ) → k < l.u → (w : ℕ) → w < l.s.size
    → Tells l.turned (value_at l.s l.p.0 (k ∷ w ∷ [])) (value_at l.t l.p.0 (k ∷ w ∷ []))
