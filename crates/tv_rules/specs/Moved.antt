-- Which members of base rules are noted for changes, and which closed rules have them.
use Rattle.std.specs.Prelude.{ℕ, ◌≡◌, ◌<◌, true, List, [], length, map, Option, None, Some, Contains}
use Rattle.std.specs.Prelude.{slice_get, slice_index_or}
use Rattle.tv_model.specs.Form.{Form}
use Rattle.tv_model.specs.Program.{HeadForm, RuleForm, rule_of}
use Rattle.tv_model.specs.declared.program.Rule.{Rule}
use Rattle.tv_coerce_moves.specs.declared.list.Member.{Member}
use Rattle.tv_coerce_moves.specs.declared.list.Occurrence.{Occurrence}
use Rattle.tv_coerce_moves.specs.Moves.{MayMove, MayTell}
use Rattle.tv_coerce_moves.specs.Occurrences.{HasMember, IsListed, KeepsMembers, OccurrenceLists, MovesOther}
use Rattle.tv_coerce_moves.specs.Occurrences.{list_for}
use Rattle.tv_rules.specs.Closing.{conjuncts, negated_head, closed_set}
use Rattle.tv_rules.specs.EntryForms.{EntryForm, closed_entries, rules_of}
use Rattle.tv_rules.specs.Kin.{base_in}
use Rattle.tv_rules.specs.Seen.{Sees}
use Rattle.tv_rules.specs.Standing.{HasTwice}

-- the member of a rule at the place: a conjunct of its body, or the negation of its head
abbrev pub member_at : Option ℕ → RuleForm → Option Form
member_at None rule = Some (negated_head rule.head)
member_at (Some k) rule = slice_get (conjuncts rule.body) k

abbrev pub member : ℕ → Option ℕ → Member
member number place = record { rule = number; place = place }

-- at another place than that
abbrev pub other_place : Option ℕ → Option ℕ
other_place None = Some 0
other_place (Some k) = None

-- the first of the rule's conjuncts are noted, so many of them
pub record AreConjunctsNoted (count : ℕ) (number : ℕ) (forms : List Form)
    (old new : OccurrenceLists) : Type 0 where
  pub kept : KeepsMembers old new
  pub noted : (k : ℕ) (f : Form) (head : HeadForm) → k < count → slice_get forms k ≡ Some f
      → IsListed head old → MayMove head true f → HasMember (member number (Some k)) (list_for new head)

-- the rule's members are noted for each change that may make them greater, where there is a list for it
abbrev pub IsRuleNoted : ℕ → RuleForm → OccurrenceLists → Type 0
IsRuleNoted number rule lists =
    (place : Option ℕ) (f : Form) (head : HeadForm) → member_at place rule ≡ Some f → IsListed head lists
    → MayMove head true f → HasMember (member number place) (list_for lists head)

-- those of the first rules are, of so many of them
abbrev pub AreRulesNoted : (count : ℕ) → List RuleForm → OccurrenceLists → Type 0
AreRulesNoted count rules lists =
    (n : ℕ) (rule : RuleForm) → n < count → slice_get rules n ≡ Some rule → IsRuleNoted n rule lists

-- a head that has one variable twice is noted for each change that may make it known
abbrev pub IsHeadNoted : OccurrenceLists → EntryForm → Type 0
IsHeadNoted lists e =
    HasTwice e.head → (head : HeadForm) → IsListed head lists → MayTell e.head head
    → HasMember (member e.base (other_place e.conjunct)) (list_for lists head)

-- those of the first rules are, of so many of them
abbrev pub AreHeadsNoted : (count : ℕ) → List EntryForm → OccurrenceLists → Type 0
AreHeadsNoted count entries lists =
    (n : ℕ) (e : EntryForm) → n < count → slice_get entries n ≡ Some e → IsHeadNoted lists e

-- the closed rule of that number is one of the occurrence's base rule, and has a member that it moves
pub record IsMovedOf (bases : List RuleForm) (occurrence : Occurrence) (number : ℕ) : Type 0 where
  pub entry : EntryForm
  pub there : slice_get (closed_entries bases) number ≡ Some entry
  pub base : entry.base ≡ occurrence.rule
  pub other : MovesOther entry.conjunct occurrence.moving

-- one of the occurrences moves it
pub record IsMovedBySomeOf (bases : List RuleForm) (occurrences : List Occurrence) (number : ℕ) : Type 0 where
  pub at : ℕ
  pub occurrence : Occurrence
  pub there : slice_get occurrences at ≡ Some occurrence
  pub moved : IsMovedOf bases occurrence number

abbrev pub IsMoved : List Rule → Occurrence → ℕ → Type 0
IsMoved bases = IsMovedOf (map rule_of bases)

abbrev pub IsMovedBySome : List Rule → List Occurrence → ℕ → Type 0
IsMovedBySome bases = IsMovedBySomeOf (map rule_of bases)

-- a closed rule that sees a change has a member that is noted for the change
abbrev pub AreOccurrences : List RuleForm → OccurrenceLists → Type 0
AreOccurrences bases lists =
    (head : HeadForm) (n : ℕ) (rule : RuleForm) → slice_get (closed_set bases) n ≡ Some rule → Sees head rule
    → IsMovedBySomeOf bases (list_for lists head) n

-- each closed rule stands in the list of its base rule, of the first so many; and no others do
pub record AreFamilies (count : ℕ) (entries : List EntryForm) (families : List (List ℕ)) : Type 0 where
  pub there : (n : ℕ) (e : EntryForm) → n < count → slice_get entries n ≡ Some e
      → Contains (slice_index_or families e.base []) n
  pub within : (b n : ℕ) → Contains (slice_index_or families b []) n
      → (n < count) × (base_in (slice_get entries n) ≡ b)

-- the lists of members and of families that stand beside base rules
pub record AreMovedBy (bases : List Rule) (lists : OccurrenceLists) (families : List (List ℕ)) : Type 0 where
  pub seen : AreOccurrences (map rule_of bases) lists
  pub grouped : AreFamilies (length (rules_of bases)) (closed_entries (map rule_of bases)) families
