use Rattle.std.proofs.Common.{take, All}
use Rattle.tv_model.specs.Form.{form_of, Mentions}
use Rattle.tv_coerce_sets.proofs.preds.are_about.Given as goal

abbrev pub invariant-loop-formula : goal.invariant-loop-formula
invariant-loop-formula l =
    All (λ f. ¬ Mentions l.pred.0 (form_of f)) (take l.formula-index l.formulas)
