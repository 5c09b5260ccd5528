use Rattle.std.proofs.Common.{◌<◌, ◌∙◌, List, length, set, ap, arith}
use Rattle.std.proofs.lemmas.List.{length-map}
use Rattle.tv_structure_form.specs.TableForm.{PlaneForm, TableForm, plane_at, plane_drawn}
use Rattle.tv_struct.proofs.PlaneDraws.{planes_blank, planes_step}
use Rattle.tv_struct.proofs.planes.Planes.drawn.Goals as goal

pub draw_over-requires-clause-blank : goal.draw_over-requires-clause-blank
draw_over-requires-clause-blank c =
    let lt : c.loop-pred.pred < length c.args.self.now.planes
    = omega (arith, c.loop-pred-test.true, c.pred_count-pred-end.ensures, length-map c.args.self.now.planes (λ (p : PlaneForm). p.arity))
    in ap (λ (t : TableForm). plane_at t c.loop-pred.pred) c.loop-pred.invariant.so_far
    ∙ planes_blank c.args.self.now c.args.drawing.now.origins c.loop-pred.pred lt

pub loop-pred-preserved : goal.loop-pred-preserved
loop-pred-preserved c =
    let lt : c.loop-pred.pred < length c.args.self.now.planes
    = omega (arith, c.loop-pred-test.true, c.pred_count-pred-end.ensures, length-map c.args.self.now.planes (λ (p : PlaneForm). p.arity))
    in record {
      so_far = c.draw_over.ensures.value
          ∙ ap (λ (t : TableForm). record t { planes = set t.planes c.loop-pred.pred (plane_drawn c.args.drawing.now.origins (plane_at c.args.self.now c.loop-pred.pred)) })
          c.loop-pred.invariant.so_far
          ∙ ap (λ (planes : List PlaneForm). record { size = length c.args.drawing.now.origins; planes = planes })
          (planes_step c.args.self.now c.args.drawing.now.origins c.loop-pred.pred lt);
      kept = c.draw_over.ensures.kept;
    }
