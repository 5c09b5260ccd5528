-- Which rules may be unmet where values of predicates changed.
use Rattle.std.specs.Prelude.{ℕ, ◌≡◌, ◌⊎◌, Bool, true, false, IsTrue, List, [], length, Option, None, Some}
use Rattle.std.specs.Prelude.{replicate, slice_get, Contains}
use Rattle.tv_kleene.specs.declared.K3.{K3}
use Rattle.tv_model.specs.Program.{HeadForm, HAtom, RuleForm}
use Rattle.tv_rules.specs.Seen.{Sees}
use Rattle.tv_structure_form.specs.StructureForm.{StructureForm, value_at}
use Rattle.tv_structure_form.specs.TableForm.{AreIndividuals}
use Rattle.tv_coerce.specs.RuleSets.{IsIn}
use Rattle.tv_coerce_sets.specs.Turned.{known}
use Rattle.tv_coerce_sets.specs.declared.turned.Turned.{Turned}

-- the head is an atom of the predicate, negated where the flag is false
abbrev pub IsHeadWith : (flag : Bool) → (pred : ℕ) → HeadForm → Type 0
IsHeadWith flag pred head = (vars : List ℕ) × (head ≡ HAtom flag pred vars)

abbrev pub HasHeadWith : (flag : Bool) → (pred : ℕ) → RuleForm → Type 0
HasHeadWith flag pred rule = IsHeadWith flag pred rule.head

-- a rule that was met may be unmet where the predicate's values turned so: it sees those that came, or its
-- head was met by those that went
abbrev pub MaySee : Turned → (pred : ℕ) → RuleForm → Type 0
MaySee turned pred rule =
    (IsTrue turned.to_yes × Sees (HAtom true pred []) rule)
    ⊎ (IsTrue turned.to_no × Sees (HAtom false pred []) rule)
    ⊎ (IsTrue turned.from_yes × HasHeadWith true pred rule)
    ⊎ (IsTrue turned.from_no × HasHeadWith false pred rule)

-- the predicate has the value in t only where it has it in s
abbrev pub HasNoNew : K3 → (pred : ℕ) → (s t : StructureForm) → Type 0
HasNoNew k pred s t =
    (tuple : List ℕ) → AreIndividuals s.size tuple → value_at t pred tuple ≡ k → value_at s pred tuple ≡ k

-- as far as the predicate goes, the rule is met in t where it is met in s: no definite value came that it
-- sees, and none went that meets its head
pub record StaysMet (pred : ℕ) (rule : RuleForm) (s t : StructureForm) : Type 0 where
  pub seen : (flag : Bool) → Sees (HAtom flag pred []) rule → HasNoNew (known flag) pred s t
  pub met : (flag : Bool) → HasHeadWith flag pred rule → HasNoNew (known flag) pred t s

-- the rules found, none where none is told
abbrev pub set_of : List RuleForm → Option (List Bool) → List Bool
set_of rules None = replicate (length rules) false
set_of rules (Some set) = set

-- each rule that isn't found is met in t where it is met in s, as far as these predicates go
pub record WaitsAmong (preds : List ℕ) (rules : List RuleForm) (s t : StructureForm)
    (found : Option (List Bool)) : Type 0 where
  pub count : length (set_of rules found) ≡ length rules
  pub stays : (k q : ℕ) (rule : RuleForm) → slice_get rules k ≡ Some rule → ¬ IsIn (set_of rules found) k
      → Contains preds q → StaysMet q rule s t
