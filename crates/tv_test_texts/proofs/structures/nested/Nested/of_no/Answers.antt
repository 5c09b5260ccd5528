use Rattle.std.proofs.Common.{map, ◌≤◌, arith}
use Rattle.std.proofs.lemmas.List.{take_all, length-map}
use Rattle.std.proofs.lemmas.List.Elements.{All-map}
use Rattle.tv_structure_form.proofs.TableLaws.{IsTable-of_no}
use Rattle.tv_test_texts.proofs.structures.nested.Nested.of_no.Goals as goal

pub invariant_of-result : goal.invariant_of-result
invariant_of-result c =
    rw (c.loop-pred.invariant, take_all c.loop-pred.pred-index c.args.preds.now c.loop-pred-test.false)
    (IsTable-of_no c.args.size (map (λ pred. pred.arity) c.args.preds.now) c.requires.size
    (rw (length-map c.args.preds.now (λ pred. pred.arity)) (omega arith))
    (All-map (λ arity. arity ≤ 2) (λ pred. pred.arity) c.args.preds.now c.requires.arities))
