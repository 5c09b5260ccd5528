-- What is kept beside the base rules.
use Rattle.std.specs.Prelude.{ℕ, ◌≡◌, ◌<◌, List, length, map, Some, slice_get}
use Rattle.std.specs.List.{AllZip}
use Rattle.tv_model.specs.declared.program.Rule.{Rule}
use Rattle.tv_rules.specs.declared.entries.Entry.{Entry}
use Rattle.tv_coerce_members.specs.declared.shapes.Shape.{Shape}
use Rattle.tv_model.specs.Program.{RuleForm, rule_of}
use Rattle.tv_rules.specs.EntryForms.{closed_entries, entry_of, rules_of}
use Rattle.tv_rules.specs.Standing.{AreNumbersOf, StandsIn, SeesSummaries}
use Rattle.tv_rules.specs.Waiting.{IsShape}

-- each predicate that stands in a rule has a place in the lists, and there the numbers of its rules
pub record AreWatched (rules : List RuleForm) (by_pred : List (List ℕ)) : Type 0 where
  pub numbers : (q : ℕ) (ns : List ℕ) → slice_get by_pred q ≡ Some ns → AreNumbersOf (StandsIn q) rules ns
  pub places : (q n : ℕ) (rule : RuleForm) → slice_get rules n ≡ Some rule → StandsIn q rule
      → q < length by_pred

-- the lists that stand beside the base rules are right
pub record AreRuleLists (bases : List Rule) (shapes : List Shape) (entries : List Entry)
    (by_pred : List (List ℕ)) (by_sm : List ℕ) : Type 0 where
  pub shaped : AllZip IsShape (map rule_of bases) shapes
  pub kept : map entry_of entries ≡ closed_entries (map rule_of bases)
  pub watched : AreWatched (rules_of bases) by_pred
  pub seeing : AreNumbersOf SeesSummaries (rules_of bases) by_sm
