use Rattle.std.proofs.Common.{ℕ, ◌<◌, ◌*◌, [], ◌∷◌}
use Rattle.tv_kleene.specs.declared.K3.{K3}
use Rattle.tv_structure_form.specs.StructureForm.{value_at}
use Rattle.tv_coerce_sets.specs.Turned.{Tells}
use Rattle.tv_coerce_sets.proofs.turned.turned_at.Given as goal

abbrev pub invariant-loop-chunk : goal.invariant-loop-chunk
invariant-loop-chunk l = record {
  here : (w : ℕ) → w < 64 * l.chunk → w < l.s.size
      → Tells l.turned (value_at l.s l.p.0 (l.u ∷ w ∷ [])) (value_at l.t l.p.0 (l.u ∷ w ∷ []));
  there : (x y : K3) → Tells l.fn.others x y → Tells l.turned x y;
}
