-- Which closed rules came of one base rule, and which member of it the head of each denies.
use Rattle.std.specs.Prelude.{ℕ, ◌≡◌, ◌<◌, List, length, map, Option, None, Some, slice_get, unwrap_or}
use Rattle.tv_coerce_members.specs.declared.shapes.Shape.{Shape}
use Rattle.tv_model.specs.Program.{RuleForm, rule_of}
use Rattle.tv_model.specs.declared.program.Rule.{Rule}
use Rattle.tv_rules.specs.Closing.{conjuncts}
use Rattle.tv_rules.specs.EntryForms.{AreFreeIn, EntryForm, closed_entries, rules_of}
use Rattle.tv_rules.specs.Waiting.{IsAllBut, forms_in}

abbrev pub base_in : Option EntryForm → ℕ
base_in None = 0
base_in (Some e) = e.base

-- the number of a closed rule's base rule
abbrev pub base_of : List Rule → ℕ → ℕ
base_of bases n = base_in (slice_get (closed_entries (map rule_of bases)) n)

abbrev pub conjunct_count : Option RuleForm → ℕ
conjunct_count None = 0
conjunct_count (Some rule) = length (conjuncts rule.body)

abbrev pub skip_in : List RuleForm → Option EntryForm → ℕ
skip_in bases None = 0
skip_in bases (Some e) = unwrap_or e.conjunct (conjunct_count (slice_get bases e.base))

-- the number of the member of its base rule that a closed rule's head denies
abbrev pub skip_of : List Rule → ℕ → ℕ
skip_of bases n = skip_in (map rule_of bases) (slice_get (closed_entries (map rule_of bases)) n)

-- n is the number of a closed rule that came of the same base rule
pub record IsKin (bases : List Rule) (number n : ℕ) : Type 0 where
  pub within : n < length (rules_of bases)
  pub base : base_of bases n ≡ base_of bases number

-- the rule has the shape's variables, and its conjuncts are all members of the shape but the one of that
-- number, which its head denies
pub record IsTriedBy (shape : Shape) (skip : ℕ) (rule : RuleForm) : Type 0 where
  pub free : AreFreeIn rule shape.variables
  pub but : IsAllBut (forms_in shape) skip rule
