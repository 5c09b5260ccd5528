-- Laws of splits and of untouched rules, as statements.
use Rattle.std.specs.Prelude.{ℕ, ◌≡◌}
use Rattle.tv_model.specs.Form.{Form, Mentions}
use Rattle.tv_model.specs.Program.{RuleForm}
use Rattle.tv_model.specs.Truth.{Assignment}
use Rattle.tv_model.specs.Valid.{NamesNew}
use Rattle.tv_embedding_laws.specs.LogicalStructure.{LogicalStructure}
use Rattle.tv_eval_laws.specs.Value.{value}
use Rattle.tv_eval_laws.specs.Laws.{TakesAlong}
use Rattle.tv_stable_laws.specs.Stable.{IsStableUnder}
use Rattle.tv_rules.specs.Standing.{HasEquality}
use Rattle.tv_coerce_laws.specs.Split.{KeepsValues, KeepsRuleValues, KeepsSummaries, IsRuleOfAtoms}
use Rattle.tv_coerce_laws.specs.Split.{IsRuleOfTuples, IsUntouched}

-- a map onto that keeps the values of the predicates that a formula mentions keeps the formula's value, where
-- no equality stands in the formula and it doesn't speak of a fresh individual
abbrev pub SplitsKeepValues : Type 0
SplitsKeepValues =
    (f : Form) (m : ℕ → ℕ) (s t : LogicalStructure) (a b : Assignment)
    → KeepsValues (λ pred. Mentions pred f) m s t
    → ¬ HasEquality f → ¬ NamesNew f → TakesAlong m s f a b → value s a f ≡ value t b f

-- where a structure is stable under a rule of tuples, so is each that is split from it and keeps the values
-- of the predicates that stand in the rule
abbrev pub SplitsAreStable : Type 0
SplitsAreStable =
    (m : ℕ → ℕ) (s t : LogicalStructure) (rule : RuleForm) → KeepsRuleValues rule m s t → IsRuleOfTuples rule
    → IsStableUnder t rule → IsStableUnder s rule

-- the same where the head may have one variable twice, of splits in which what goes to a summary is one
abbrev pub SplitsOfSummariesAreStable : Type 0
SplitsOfSummariesAreStable =
    (m : ℕ → ℕ) (s t : LogicalStructure) (rule : RuleForm) → KeepsRuleValues rule m s t → KeepsSummaries m s t
    → IsRuleOfAtoms rule → IsStableUnder t rule → IsStableUnder s rule

-- a structure that differs only in what a rule doesn't see is as stable under it as before
abbrev pub UntouchedRulesStayStable : Type 0
UntouchedRulesStayStable =
    (s t : LogicalStructure) (rule : RuleForm) → ¬ NamesNew rule.body → IsUntouched rule s t
    → IsStableUnder s rule → IsStableUnder t rule
