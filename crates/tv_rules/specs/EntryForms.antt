-- How the closed rules are kept: the base rules with their formulas, and for each closed rule the number
-- of its base rule, the place of the conjunct whose place the negated head takes, and its head.
use Rattle.std.specs.Prelude.{ℕ, suc, ◌↔◌, ◌<◌, ◌⊎◌, List, [], ◌∷◌, ◌++◌, map, Option, None, Some, Contains}
use Rattle.std.specs.Prelude.{slice_set}
use Rattle.std.specs.List.{cons_option}
use Rattle.tv_model.specs.declared.formula.Var.{Var}
use Rattle.tv_model.specs.declared.program.Rule.{Rule}
use Rattle.tv_rules.specs.declared.entries.Entry.{Entry}
use Rattle.tv_model.specs.Form.{Form}
use Rattle.tv_model.specs.Program.{HeadForm, RuleForm, head_of, rule_of}
use Rattle.tv_model.specs.Rules.{IsFreeInRule}
use Rattle.tv_rules.specs.Closing.{conjuncts, negated as negation, closed_set}
pub use Rattle.tv_coerce_members.specs.Members.{forms_of, numbers_of}

-- the closed set of these base rules
abbrev pub rules_of : List Rule → List RuleForm
rules_of bases = closed_set (map rule_of bases)

-- the formulas, with x in the place k, if there is one
abbrev pub swapped_at : Option ℕ → Form → List Form → List Form
swapped_at None x fs = fs
swapped_at (Some k) x fs = slice_set fs k x

-- how a closed rule is kept
pub record EntryForm : Type 0 where
  pub base : ℕ
  pub conjunct : Option ℕ
  pub head : HeadForm

abbrev pub entry_of : Entry → EntryForm
entry_of e = record { base = e.base; conjunct = e.conjunct; head = head_of e.head }

-- the base rules, numbered from n on
abbrev pub base_entries : ℕ → List RuleForm → List EntryForm
base_entries n [] = []
base_entries n (rule ∷ rules) =
    record { base = n; conjunct = None; head = rule.head } ∷ base_entries (suc n) rules

-- the further rule of the base rule b about its conjunct k, whose negation is the head, if there is one
abbrev pub literal_entry : (b k : ℕ) → Option HeadForm → Option EntryForm
literal_entry b k None = None
literal_entry b k (Some head) = Some (record { base = b; conjunct = Some k; head = head })

-- the further rules of the base rule b about these conjuncts, numbered from k on
abbrev pub literal_entries : (b k : ℕ) → List Form → List EntryForm
literal_entries b k [] = []
literal_entries b k (f ∷ fs) = cons_option (literal_entry b k (negation f)) (literal_entries b (suc k) fs)

-- the further rules of the base rules, numbered from b on
abbrev pub further_entries : (b : ℕ) → List RuleForm → List EntryForm
further_entries b [] = []
further_entries b (rule ∷ rules) = literal_entries b 0 (conjuncts rule.body) ++ further_entries (suc b) rules

-- the closed rules of these base rules, as they are kept
abbrev pub closed_entries : List RuleForm → List EntryForm
closed_entries rules = base_entries 0 rules ++ further_entries 0 rules

-- the new list has the variables of the old one, and else only variables in range that are free in the rule
abbrev pub HasMoreFree : RuleForm → (old new : List ℕ) → Type 0
HasMoreFree rule old new = (w : ℕ) → (Contains old w → Contains new w)
    × (Contains new w → Contains old w ⊎ ((w < 32) × IsFreeInRule w rule))

-- the variables are those that are free in the rule
abbrev pub AreFreeIn : RuleForm → List Var → Type 0
AreFreeIn rule vars = (v : ℕ) → Contains (numbers_of vars) v ↔ IsFreeInRule v rule
