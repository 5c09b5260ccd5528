-- The predicates that formulas mention.
use Rattle.std.specs.Prelude.{ℕ, ◌<◌, List, All, Contains}
use Rattle.tv_model.specs.declared.formula.Formula.{Formula}
use Rattle.tv_model.specs.Form.{form_of, Mentions}

-- each predicate below n that a formula mentions is listed
abbrev pub AreListed : ℕ → List Formula → List ℕ → Type 0
AreListed n formulas preds = All (λ f. (q : ℕ) → q < n → Mentions q (form_of f) → Contains preds q) formulas
