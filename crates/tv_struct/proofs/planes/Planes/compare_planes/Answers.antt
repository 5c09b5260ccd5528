use Rattle.std.proofs.Common.{◌≡◌, ◌∙◌, length, min, sym, ap, arith}
use Rattle.std.specs.Ordering.{nat_cmp}
use Rattle.std.proofs.lemmas.List.{length-map}
use Rattle.tv_structure_form.specs.TableForm.{PlaneForm}
use Rattle.tv_struct.proofs.OrderLaws.{planes_cmp-rest}
use Rattle.tv_struct.proofs.planes.Planes.compare_planes.Goals as goal

pub returns : goal.returns
returns c =
    let mine : c.pred_count.result ≡ length c.args.self.now.planes
    = c.pred_count.ensures ∙ length-map c.args.self.now.planes (λ (p : PlaneForm). p.arity)
    in let theirs : c.pred_count-2.result ≡ length c.args.other.now.planes
    = c.pred_count-2.ensures ∙ length-map c.args.other.now.planes (λ (p : PlaneForm). p.arity)
    in let mine_too : c.pred_count-3.result ≡ length c.args.self.now.planes
    = c.pred_count-3.ensures ∙ length-map c.args.self.now.planes (λ (p : PlaneForm). p.arity)
    in let theirs_too : c.pred_count-4.result ≡ length c.args.other.now.planes
    = c.pred_count-4.ensures ∙ length-map c.args.other.now.planes (λ (p : PlaneForm). p.arity)
    in let at_end : c.loop-pred.pred ≡ min (length c.args.self.now.planes) (length c.args.other.now.planes)
    = omega (arith, c.loop-pred-test.false, c.loop-pred.auto.pred-end, c.min-count.ensures, mine, theirs)
    in c.cmp.ensures ∙ ap (λ n. nat_cmp n c.pred_count-4.result) mine_too ∙ ap (nat_cmp (length c.args.self.now.planes)) theirs_too
    ∙ sym (planes_cmp-rest c.args.self.now.planes c.args.other.now.planes c.loop-pred.pred at_end) ∙ c.loop-pred.invariant
