-- In which rules a predicate stands, and which rules see whether an individual is a summary.
use Rattle.std.specs.Prelude.{ℕ, ◌≡◌, ◌⊎◌, ◌↔◌, List, Some, Contains, slice_get}
use Rattle.std.specs.List.Sorted.{IsStrictlyIncreasing}
use Rattle.tv_model.specs.Form.{Mentions}
use Rattle.tv_model.specs.Program.{HeadForm, RuleForm}
pub use Rattle.tv_coerce_moves.specs.Moves.{IsHeadOf, HasEquality, IsEquality}
use Rattle.tv_stable_laws.specs.Stable.{IsTwice}

-- the predicate q stands in the rule, in its body or in its head
abbrev pub StandsIn : ℕ → RuleForm → Type 0
StandsIn q rule = Mentions q rule.body ⊎ IsHeadOf q rule.head

-- an equality stands in the rule, in its body or in its head
abbrev pub HasEqualityIn : RuleForm → Type 0
HasEqualityIn rule = HasEquality rule.body ⊎ IsEquality rule.head

-- the head has one variable twice
abbrev pub HasTwice : HeadForm → Type 0
HasTwice head = (v : ℕ) × IsTwice v head

-- whether a structure is stable under the rule may turn on which individuals are summaries: an equality
-- stands in it, or its head has one variable twice
abbrev pub SeesSummaries : RuleForm → Type 0
SeesSummaries rule = HasEqualityIn rule ⊎ HasTwice rule.head

-- the numbers of the rules that are so, in order
pub record AreNumbersOf (IsSo : RuleForm → Type 0) (rules : List RuleForm) (numbers : List ℕ) : Type 0 where
  pub exact : (n : ℕ) → Contains numbers n ↔ ((rule : RuleForm) × (slice_get rules n ≡ Some rule) × IsSo rule)
  pub increasing : IsStrictlyIncreasing numbers
