use Rattle.std.specs.List.{range_with_len}
use Rattle.std.proofs.lemmas.List.FromFn.{length-range_with_len}
use Rattle.std.proofs.Common.{◌+◌, sym, ◌<◌, ◌∙◌, List, length, set, ap, arith}
use Rattle.std.proofs.lemmas.List.{length-map}
use Rattle.tv_structure_form.specs.TableForm.{PlaneForm, TableForm, plane_at, plane_drawn, table_of_no}
use Rattle.tv_structure_form.specs.TableForm.{arities_in}
use Rattle.tv_struct.proofs.PlaneDraws.{planes_arity, planes_step}
use Rattle.tv_struct.proofs.planes.Planes.extended.Goals as goal

pub extend_plane-requires-clause-arity : goal.extend_plane-requires-clause-arity
extend_plane-requires-clause-arity c =
    let lt : c.loop-pred.pred < length c.args.self.now.planes
    = omega (arith, c.loop-pred-test.true, c.pred_count-pred-end.ensures, length-map c.args.self.now.planes (λ (p : PlaneForm). p.arity))
    in ap (λ (t : TableForm). (plane_at t c.loop-pred.pred).arity) c.loop-pred.invariant.so_far
    ∙ planes_arity c.args.self.now (range_with_len 0 (c.args.self.now.size + 1)) c.loop-pred.pred lt

pub loop-pred-preserved : goal.loop-pred-preserved
loop-pred-preserved c =
    let lt : c.loop-pred.pred < length c.args.self.now.planes
    = omega (arith, c.loop-pred-test.true, c.pred_count-pred-end.ensures, length-map c.args.self.now.planes (λ (p : PlaneForm). p.arity))
    in record {
      so_far = c.extend_plane.ensures.value
          ∙ ap (λ (t : TableForm). record t { planes = set t.planes c.loop-pred.pred (plane_drawn (range_with_len 0 (c.args.self.now.size + 1)) (plane_at c.args.self.now c.loop-pred.pred)) })
          c.loop-pred.invariant.so_far
          ∙ ap (λ (planes : List PlaneForm). record { size = length (range_with_len 0 (c.args.self.now.size + 1)); planes = planes })
          (planes_step c.args.self.now (range_with_len 0 (c.args.self.now.size + 1)) c.loop-pred.pred lt);
      kept = c.extend_plane.ensures.kept;
    }

pub extend_plane-requires-clause-size : goal.extend_plane-requires-clause-size
extend_plane-requires-clause-size c =
    ap (λ (t : TableForm). t.size) c.loop-pred.invariant.so_far ∙ length-range_with_len 0 (c.args.self.now.size + 1)

pub extend_plane-requires-clause-narrow : goal.extend_plane-requires-clause-narrow
extend_plane-requires-clause-narrow c =
    omega (arith, c.requires, ap (λ (t : TableForm). t.size) c.loop-pred.invariant.so_far, length-range_with_len 0 (c.args.self.now.size + 1))

pub loop-pred-init : goal.loop-pred-init
loop-pred-init c = record {
  so_far = c.in_ok-extended.ensures.value
      ∙ ap (λ n. table_of_no n (arities_in c.args.self.now.planes))
      (ap (λ n. n + 1) c.size-size.ensures.size ∙ sym (length-range_with_len 0 (c.args.self.now.size + 1)));
  kept = c.in_ok-extended.ensures.kept;
}
