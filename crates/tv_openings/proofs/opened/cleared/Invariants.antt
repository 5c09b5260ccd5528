use Rattle.std.proofs.Common.{ℕ, ◌≡◌, ◌<◌, false}
use Rattle.tv_structure_form.specs.StructureForm.{IsStructure, summary_at}
use Rattle.tv_openings.proofs.opened.cleared.Given as goal

abbrev pub invariant-loop-u : goal.invariant-loop-u
invariant-loop-u l = record {
  is : IsStructure l.t;
  size : l.t.size ≡ l.fn.t.size;
  planes : l.t.planes ≡ l.fn.t.planes;
  fresh : l.t.fresh ≡ l.fn.t.fresh;
  ordinary : (k : ℕ) → k < l.u → summary_at l.t k ≡ false;
}
