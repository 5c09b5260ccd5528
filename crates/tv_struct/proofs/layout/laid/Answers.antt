use Rattle.std.proofs.Common.{ℕ, ◌≡◌, ◌<◌, ◌≤◌, ◌+◌, ◌*◌, ◌∙◌, List, [], ◌∷◌, ◌++◌, length, map, take, get_or}
use Rattle.std.proofs.Common.{ap, sym, arith}
use Rattle.std.proofs.lemmas.List.{length-map, get_or-map, get_or_read, take_more}
use Rattle.tv_model.specs.declared.program.Pred.{Pred}
use Rattle.tv_struct.specs.LayoutForm.{starts_from, end_from}
use Rattle.tv_structure_form.specs.TableForm.{row_count}
use Rattle.tv_struct.proofs.HeldLaws.{end_fits, end_more, starts_more}
use Rattle.tv_struct.proofs.layout.laid.Goals as goal

-- the arity of a predicate that is read is that of its place
arity-read : (preds : List Pred) (i : ℕ) (pred : Pred) → i < length preds → pred ≡ get_or preds i pred
    → pred.arity ≡ get_or (map (λ p. p.arity) preds) i 0
arity-read preds i pred lt is = ap (λ p. p.arity) is ∙ sym (get_or-map (λ p. p.arity) preds i pred 0 lt)

pub overflow_add-single : goal.overflow_add-single
overflow_add-single c =
    let arities : List ℕ = map (λ (p : Pred). p.arity) c.args.preds.now
    in let many : length arities ≡ length c.args.preds.now = length-map c.args.preds.now (λ (p : Pred). p.arity)
    in let lt : c.loop-pred.pred-index < length arities = omega (arith, many, c.loop-pred-test.true)
    in let fits : end_from 0 0 (take (c.loop-pred.pred-index + 1) arities) ≤ 256 * 4294967295
    = end_fits 0 arities (c.loop-pred.pred-index + 1) (omega arith) (omega (arith, lt)) (omega (arith, many, c.requires))
    in let rows : c.row_count.result ≡ row_count 0 (get_or arities c.loop-pred.pred-index 0)
    = c.row_count.ensures ∙ ap (row_count 0) (arity-read c.args.preds.now c.loop-pred.pred-index c.pred-item.result c.loop-pred-test.true
    (get_or_read c.args.preds.now c.loop-pred.pred-index c.pred-item.result c.loop-pred-test.true c.pred-item.is c.pred-item.result))
    in omega (arith, c.loop-pred.invariant.next, rows, end_more 0 arities c.loop-pred.pred-index 0 lt, fits)

pub loop-pred-preserved : goal.loop-pred-preserved
loop-pred-preserved c =
    let arities : List ℕ = map (λ (p : Pred). p.arity) c.args.preds.now
    in let many : length arities ≡ length c.args.preds.now = length-map c.args.preds.now (λ (p : Pred). p.arity)
    in let lt : c.loop-pred.pred-index < length arities = omega (arith, many, c.loop-pred-test.true)
    in let arity : c.pred-item.result.arity ≡ get_or arities c.loop-pred.pred-index 0
    = arity-read c.args.preds.now c.loop-pred.pred-index c.pred-item.result c.loop-pred-test.true
    (get_or_read c.args.preds.now c.loop-pred.pred-index c.pred-item.result c.loop-pred-test.true c.pred-item.is c.pred-item.result)
    in let rows : c.row_count.result ≡ row_count 0 (get_or arities c.loop-pred.pred-index 0) = c.row_count.ensures ∙ ap (row_count 0) arity
    in record {
      arities = c.in_ok-push.ensures.items ∙ ap (λ (ns : List ℕ). ns ++ c.pred-item.result.arity ∷ []) c.loop-pred.invariant.arities
          ∙ ap (λ n. take c.loop-pred.pred-index arities ++ n ∷ []) arity ∙ sym (take_more arities c.loop-pred.pred-index 0 lt);
      singles = c.in_ok-push-2.ensures.items ∙ ap (λ (ns : List ℕ). ns ++ c.loop-pred.single ∷ []) c.loop-pred.invariant.singles
          ∙ ap (λ n. starts_from 0 0 (take c.loop-pred.pred-index arities) ++ n ∷ []) c.loop-pred.invariant.next
          ∙ sym (starts_more 0 arities c.loop-pred.pred-index 0 lt);
      next = omega (arith, c.loop-pred.invariant.next, rows, end_more 0 arities c.loop-pred.pred-index 0 lt);
    }
