use Rattle.std.proofs.Common.{◌≡◌, map}
use Rattle.std.specs.List.{range_with_len}
use Rattle.tv_model.specs.Form.{form_of}
use Rattle.tv_model.specs.Truth.{put}
use Rattle.tv_eval.specs.Along.{values_along}
use Rattle.tv_eval.specs.AssignmentForm.{assignment_of}
use Rattle.tv_eval.specs.Bound.{bound_structure}
use Rattle.tv_update.proofs.rows.Rows.fill_pairs.Given as goal

abbrev pub invariant-loop-u : goal.invariant-loop-u
invariant-loop-u l = record {
  rows : l.self.pairs.items
      ≡ map (λ u. values_along (bound_structure l.fn.e) (put (assignment_of l.a) l.v.0 u) l.w.0 (form_of l.f))
      (range_with_len 0 l.u);
  size : l.self.size ≡ l.fn.self.size;
  same : l.e ≡ l.fn.e;
}
