-- The update that was found, on all tuples.
use Rattle.std.proofs.Common.{ℕ, ◌≡◌, ◌↔◌, ◌∙◌, List, All, Option, Some, IsTrue, ap, map, subst}
use Rattle.tv_model.specs.Program.{KCore, UpdateForm, kind_of, update_of}
use Rattle.tv_model.specs.Step.{update_for}
use Rattle.tv_concrete.specs.Steps.{AllowsIn}
use Rattle.tv_concrete.specs.Tuples.{tuples_of}
use Rattle.tv_concrete.proofs.StepLemmas.{found-answer, refuted}
use Rattle.tv_concrete.proofs.fair.agrees_one.Goals as goal

pub returns : goal.returns
returns c =
    let P : UpdateForm → List ℕ → Type 0 = λ w tuple. AllowsIn c.args.step.now c.args.q w tuple
    in let Of : Option UpdateForm → Type 0 = λ o. IsTrue c.agrees_found.result
    ↔ ((w : UpdateForm) → o ≡ Some w → All (P w) c.as_slice-2.result.now)
    in let is : c.as_slice-2.result.now ≡ tuples_of c.args.step.now.new.now.individuals c.args.pred.now.arity =
    c.as_slice-2.ensures ∙ c.in_ok-all.ensures ∙ ap (λ xs. tuples_of xs c.args.pred.now.arity) c.as_slice.ensures
    in found-answer (¬ (kind_of c.args.pred.now.kind ≡ KCore))
    (update_for c.args.q (map update_of c.args.updates.now)) P
    c.args.step.now.new.now.individuals c.args.pred.now.arity c.as_slice-2.result.now c.agrees_found.result is
    (refuted (kind_of c.args.pred.now.kind ≡ KCore) c.is_core.result c.if-is_core.false c.is_core.ensures)
    (subst Of c.find_update.ensures c.agrees_found.ensures)
