-- Laws of the closed rules, as statements.
use Rattle.std.specs.Prelude.{ℕ, ◌≡◌, ◌≤◌, ◌↔◌, IsTrue, [], ◌∷◌, map, All, List}
use Rattle.tv_model.specs.Form.{Form, IsFree, height}
use Rattle.tv_model.specs.Heap.{Heap}
use Rattle.tv_model.specs.Program.{ProgramForm, HeadForm, RuleForm}
use Rattle.tv_model.specs.Rules.{IsInHead, MeetsRule, MeetsProgram, IsConcrete}
use Rattle.tv_model.specs.Laws.{EachFormula}
use Rattle.tv_model.specs.Truth.{Assignment}
use Rattle.tv_model.specs.Valid.{IsValid, IsRule, IsFormulaOver}
use Rattle.tv_kleene.specs.declared.K3.TheVariants.{Yes}
use Rattle.tv_embedding_laws.specs.LogicalStructure.{LogicalStructure}
use Rattle.tv_eval_laws.specs.Value.{value}
use Rattle.tv_model.specs.Free.{is_free}
use Rattle.tv_rules.specs.Closing.{is_in_head, conjuncts, puttings, swaps, base_rules, dropped_rule}
use Rattle.tv_rules.specs.Closing.{further_rules, closed_rules}

-- a concrete heap that meets the program meets each of its closed rules
abbrev pub ClosedRulesAreMet : Type 0
ClosedRulesAreMet =
    (p : ProgramForm) (h : Heap) → IsValid p → IsConcrete p h → MeetsProgram p h
    → All (MeetsRule h) (closed_rules p)

-- a concrete heap that meets the program meets each of its base rules
abbrev pub BaseRulesAreMet : Type 0
BaseRulesAreMet =
    (p : ProgramForm) (h : Heap) → IsValid p → IsConcrete p h → MeetsProgram p h
    → All (MeetsRule h) (base_rules p)

-- a heap meets the closed rules exactly where it meets the base rules
abbrev pub ClosingKeepsMeaning : Type 0
ClosingKeepsMeaning =
    (p : ProgramForm) (h : Heap) → All (MeetsRule h) (base_rules p) ↔ All (MeetsRule h) (closed_rules p)

-- each further rule holds in every heap in which its base rule holds
abbrev pub FurtherRulesFollow : Type 0
FurtherRulesFollow = (h : Heap) (rule : RuleForm) → MeetsRule h rule → All (MeetsRule h) (further_rules rule)

-- a heap meets a rule exactly where it meets the rule after the dropping
abbrev pub DroppingKeepsMeaning : Type 0
DroppingKeepsMeaning = (h : Heap) (rule : RuleForm) → MeetsRule h rule ↔ MeetsRule h (dropped_rule rule)

-- the tests of the dropping say which variables stand free and which in the head
pub record TestsTell (v : ℕ) : Type 0 where
  pub free : (f : Form) → IsTrue (is_free v f) ↔ IsFree v f
  pub in_head : (head : HeadForm) → IsTrue (is_in_head v head) ↔ IsInHead v head

abbrev pub TestsAreRight : Type 0
TestsAreRight = (v : ℕ) → TestsTell v

-- there is one swap for each conjunct, in order; and where x isn't a conjunction, its body has the same
-- conjuncts, with x at that place
pub record AreSwaps (x f : Form) : Type 0 where
  pub each : map (λ s. s.conjunct) (swaps x f) ≡ conjuncts f
  pub bodies : conjuncts x ≡ x ∷ [] → map (λ s. conjuncts s.body) (swaps x f) ≡ puttings x (conjuncts f)

abbrev pub SwapsAreOfConjuncts : Type 0
SwapsAreOfConjuncts = (x f : Form) → AreSwaps x f

-- the closed rules of a valid program are themselves valid rules over its vocabulary
abbrev pub ClosedRulesAreRules : Type 0
ClosedRulesAreRules = (p : ProgramForm) → IsValid p → All (IsRule p) (closed_rules p)

-- no formula of the program is higher than n
abbrev pub IsNoHigher : ProgramForm → (n : ℕ) → Type 0
IsNoHigher p n = EachFormula (λ f. height f ≤ n) p

-- a formula's conjuncts carry it: its value is Yes exactly where those of all conjuncts are, and no conjunct
-- has a free variable, a predicate or a height that the formula hasn't
pub record CarryFormula (f : Form) : Type 0 where
  pub yes : (s : LogicalStructure) (a : Assignment) → (value s a f ≡ Yes)
      ↔ All (λ g. value s a g ≡ Yes) (conjuncts f)
  pub free : All (λ g. (v : ℕ) → IsFree v g → IsFree v f) (conjuncts f)
  pub formulas : (arities : List ℕ) → IsFormulaOver arities f → All (IsFormulaOver arities) (conjuncts f)
  pub heights : All (λ g. height g ≤ height f) (conjuncts f)

abbrev pub ConjunctsCarryFormulas : Type 0
ConjunctsCarryFormulas = (f : Form) → CarryFormula f
