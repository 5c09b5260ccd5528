use Rattle.std.proofs.Common.{◌≡◌, map, take}
use Rattle.tv_structure_form.specs.TableForm.{plane_of_no}
use Rattle.tv_test_texts.proofs.structures.nested.Nested.of_no.Given as goal

abbrev pub invariant-loop-pred : goal.invariant-loop-pred
invariant-loop-pred l =
    l.planes.items ≡ map (plane_of_no l.size) (map (λ pred. pred.arity) (take l.pred-index l.preds))
