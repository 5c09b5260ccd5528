-- Which closed rule an entry stands for.
use Rattle.std.specs.Prelude.{ℕ, ◌≡◌, List, Option, None, Some, slice_get}
use Rattle.tv_model.specs.Program.{RuleForm}
use Rattle.tv_rules.specs.Closing.{Swap, swaps, negated, negated_head}
use Rattle.tv_rules.specs.EntryForms.{EntryForm}

-- the rule is the base rule, or that about one of its conjuncts
abbrev pub IsRuleAbout : Option ℕ → (base rule : RuleForm) → Type 0
IsRuleAbout None base rule = rule ≡ base
IsRuleAbout (Some k) base rule =
    (s : Swap) × (slice_get (swaps (negated_head base.head) base.body) k ≡ Some s) × (rule.body ≡ s.body)
    × (negated s.conjunct ≡ Some rule.head)

-- the entry stands for the rule
pub record IsEntry (bases : List RuleForm) (rule : RuleForm) (e : EntryForm) : Type 0 where
  pub base : RuleForm
  pub there : slice_get bases e.base ≡ Some base
  pub about : IsRuleAbout e.conjunct base rule
  pub head : e.head ≡ rule.head
